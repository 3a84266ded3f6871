-- What the bytes of a message say of the line.
use Rattle.std.proofs.Common.{◌≡◌, List, ℕ, Some, None, Option, Result, Ok, Err, Vec, Global, vec_items, MatchResult, refl, ap, ◌∙◌}
use Rattle.std.specs.Option.{option_map}
use Rattle.std.specs.Result.{IsOkAnd}
use Rattle.text.specs.declared.Fault.{Fault}
use Rattle.text.specs.declared.Fault.TheVariants.{Malformed, Memory}
use Rattle.text.specs.declared.lines.HomeLine.{HomeLine}
use Rattle.text.specs.declared.lines.HomeLine.TheVariants.{Message}
use Rattle.text.specs.Faults.{Refuses}
use Rattle.text.specs.Line.{Meaning, Bytes, meant}

refuses_message : (e : Fault) (o : Option (List ℕ)) → Refuses e o → Refuses e (option_map Bytes o)
refuses_message Malformed o h = ap (option_map Bytes) h
refuses_message Memory (Some bs) h = refl
refuses_message Memory None h = h

pub read_message : (meaning : Option Meaning) (o : Option (List ℕ)) (bytes : Result (Vec ℕ Global) Fault) (r : Result HomeLine Fault) → meaning ≡ option_map Bytes o → MatchResult bytes (λ v. o ≡ Some (vec_items v)) (λ e. Refuses e o) → MatchResult bytes (λ v. IsOkAnd r (λ l. l ≡ Message v)) (λ e. r ≡ Err e) → MatchResult r (λ l. meaning ≡ Some (meant l)) (λ e. Refuses e meaning)
read_message meaning o (Ok v) (Ok l) m read mapped = rw mapped (m ∙ ap (option_map Bytes) read)
read_message meaning o (Ok v) (Err e) m read mapped = absurd mapped
read_message meaning o (Err e) r m read mapped = rw (mapped, m) (refuses_message e o read)
