use Rattle.std.proofs.Common.{◌≡◌, arith}
use Rattle.std.specs.Option.{option_map}
use Rattle.std.proofs.lemmas.Bool.Decides.{nat_tests}
use Rattle.text.specs.Hex.{bytes_from}
use Rattle.text.specs.Line.{Bytes, meaning_of}
use Rattle.text.proofs.LineSteps.{read_message}
use Rattle.text.proofs.lines.home_line.Goals as goal

pub returns-in-empty-second : goal.returns-in-empty-second
returns-in-empty-second c =
    let meaning : meaning_of c.args.line.now ≡ option_map Bytes (bytes_from c.next_word.result.0.now) = grind (arith, nat_tests) in
    read_message _ _ _ _ meaning c.unhex.ensures c.map.ensures.cases
