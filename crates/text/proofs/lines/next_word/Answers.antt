use Rattle.std.proofs.Common.{◌≡◌, drop, not, ap, ◌∙◌, rules}
use borrow.Author.Tests.{tests}
use Rattle.std.proofs.lemmas.Iterator.{YieldsList-from_slice}
use Rattle.std.proofs.lemmas.Iterator.Consumers.{count_from_yields_List}
use Rattle.std.proofs.lemmas.Iterator.Search.{YieldsList-from_take_while}
use Rattle.std.proofs.lemmas.List.Folds.{length-prefix_len}
use Rattle.text.specs.Line.{white, skipped}
use Rattle.text.proofs.lines.next_word.Goals as goal

pub returns : goal.returns
returns c =
    let line = c.args.line.now in
    let rest = c.split_at.result.1.now in
    let front = count_from_yields_List c.take_while.result _ c.count-white.ensures.ran (YieldsList-from_take_while _ white (YieldsList-from_slice line cc) c.take_while.ensures.closure c.take_while.ensures.done (λ x b q k. search (rules, tests))) ∙ length-prefix_len white line in
    let word = count_from_yields_List c.take_while-2.result _ c.count-word.ensures.ran (YieldsList-from_take_while _ (λ b. not (white b)) (YieldsList-from_slice rest cc) c.take_while-2.ensures.closure c.take_while-2.ensures.done (λ x b q k. search (rules, tests))) ∙ length-prefix_len (λ b. not (white b)) rest in
    let left : rest ≡ skipped line = c.split_at.ensures.back ∙ ap (λ n. drop n line) front in
    record { word = cc; rest = cc }
