-- Diffs: a diff that is put in has its station's next number, and the words are made of those that were put in. Assumes nothing.
use Rattle.std.proofs.Common.{◌≡◌, ℕ, ◌+◌, List, [], ◌∷◌, ◌++◌, Some, None, Ok, Option, arith}
use Rattle.std.proofs.lemmas.List.{append-nil}
use Rattle.std.proofs.lemmas.Bool.Decides.{nat_tests}
use Rattle.std.proofs.lemmas.List.Concat.{flat_map-append}
use Rattle.std.proofs.lemmas.List.Sums.{fold_push}
use Rattle.std.specs.List.{range_with_len}
use Rattle.model.specs.declared.Message.{Message}
use Rattle.model.specs.declared.Message.TheVariants.{Diff}
use Rattle.basics.specs.declared.Refusal.{Refusal}
use Rattle.model.specs.Home.{patched}
use Rattle.basics.specs.Sizes.{put}
use Rattle.promise.specs.History.{Exchange, exchange, diff_number, diff_numbers, put_in, built}
use Rattle.promise.proofs.Rising.{counting_more}

pub record Diffs (es : List Exchange) (applied memory : ℕ → ℕ) : Type 0 where
  pub numbers : (s : ℕ) → diff_numbers s es ≡ range_with_len 1 (applied s)
  pub words : memory ≡ built (λ w. 0) es

module _ {es : List Exchange} {applied memory : ℕ → ℕ} (d : Diffs es applied memory) where
  -- a message that is no diff, whatever it is answered with
  pub diffs_same :
      (m : Message) (o : Option Refusal) (ms : List Message) → ((s : ℕ) → diff_number s m ≡ []) → ((ws : ℕ → ℕ) → put_in m ws ≡ ws) →
      Diffs (es ++ exchange o (Ok m) ms) applied memory
  diffs_same m None ms none same =
      record { numbers = λ s. rw (flat_map-append, none s) (simp append-nil (d.numbers s)); words = rw (fold_push, same (built (λ w. 0) es)) d.words }
  diffs_same m (Some why) ms none same = rw (append-nil es) d

  -- the next diff of a station
  pub diffs_put :
      (i n p : ℕ) (cs : List (Option ℕ)) (ms : List Message) → n ≡ applied i + 1 →
      Diffs (es ++ (record { message = Diff i n p cs; sent = ms } ∷ [])) (put i n applied) (patched p cs memory)
  diffs_put i n p cs ms next =
      record {
        numbers = λ s. let k = d.numbers s in let more = counting_more 1 (applied s) in grind (arith, nat_tests, append-nil, flat_map-append);
        words = rw (fold_push, ← d.words);
      }
