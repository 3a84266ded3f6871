use Rattle.std.proofs.Common.{refl, rules, arith}
use Rattle.std.proofs.lemmas.Bool.Decides.{nat_tests}
use Rattle.std.proofs.lemmas.List.{get_or_past}
use Rattle.vectors.specs.Check.{greatest}
use Rattle.race_check.specs.Rows.{vector_of}
use Rattle.race_check.proofs.Vectors.{made}
use Rattle.race_check.proofs.clocks.greatest.Goals as goal

pub returns : goal.returns
returns c =
    made _ _ (greatest (vector_of c.args.a) (vector_of c.args.b)) 16 (λ i y q l h. (grind (arith, nat_tests, h), search (rules, h))) _
    (λ j l. rw (get_or_past c.args.a j 0 (omega arith), get_or_past c.args.b j 0 (omega arith)) refl) c.from_fn.ensures.items
