-- A page that was absent and is present then came with the answer to the last page request. Assumes nothing.
use Rattle.std.proofs.Common.{◌≡◌, ℕ, true, false, List, [], ◌∷◌, ◌++◌, Some, Ok, Err, Option, Result, refl, arith}
use Rattle.std.proofs.lemmas.Bool.{both_ways, eqb-true, not-false, false≢true}
use Rattle.std.proofs.lemmas.Bool.Decides.{nat_tests}
use Rattle.basics.specs.declared.Refusal.{Refusal}
use Rattle.model.specs.declared.Message.{Message}
use Rattle.model.specs.declared.Message.TheVariants.{PageReply, LockGranted}
use Rattle.model.specs.declared.Call.{Call}
use Rattle.model.specs.declared.Call.TheVariants.{Free}
use Rattle.model.specs.declared.Awaited.TheVariants.{Page}
use Rattle.model.specs.declared.Holding.{Holding}
use Rattle.model.specs.declared.Holding.TheVariants.{Held}
use Rattle.model.specs.Bytes.{parse}
use Rattle.model.specs.Cache.{Cache, is_in, installed}
use Rattle.model.specs.Station.{StationState, Calls, Comes, begun, call_refusals, message_refusals, frees, does, calls, takes_in, station_reads, station_after}
use Rattle.promise.specs.Station.{InstalledByTheLast}
use Rattle.promise.proofs.Rows.{NoneApply, unless_either}
use Rattle.promise.proofs.Pages.{in_push}
use Rattle.promise.proofs.StationSound.{page_awaited, station_sound}

frees_pages : (s : StationState) (l : ℕ) (h : Option Holding) → (frees s l h).after.cache ≡ s.cache
frees_pages s l (Some (Held n)) = refl
frees_pages s l h = refl

does_pages : (s : StationState) (c : Call) → (does s c).after.cache.present ≡ s.cache.present
does_pages s (Free l) = rw (frees_pages s l (s.locks l))
does_pages s c = refl

-- no call brings a page
calls_pages : (s : StationState) (c : Call) → (calls s c).after.cache.present ≡ s.cache.present
calls_pages s c =
    unless_either (λ r. r.after.cache.present ≡ s.cache.present) (call_refusals s c) s (does s c) (λ _. refl) (λ _. does_pages s c)

-- this message brings the page, and the cache is this one then
record Brings (now : StationState) (p : ℕ) (r : Result Message Refusal) (after : Cache) : Type 0 where
  pub number : ℕ
  pub words : List ℕ
  pub answer : r ≡ Ok (PageReply now.head.station p number words)
  pub awaited : now.head.awaits ≡ Some (Page p number)
  pub put : after ≡ installed p words now.cache

module _ (now : StationState) (p : ℕ) (absent : is_in p now.cache.present ≡ false) where
  same_page : (q : ℕ) → is_in p (now.cache.present ++ q ∷ []) ≡ true → q ≡ p
  same_page q there = let e = in_push p q now.cache.present in grind (arith, nat_tests)

  reply_brings :
      (t q n : ℕ) (ws : List ℕ) → t ≡ now.head.station → now.head.awaits ≡ Some (Page q n) → q ≡ p →
      Brings now p (Ok (PageReply t q n ws)) (installed q ws now.cache)
  reply_brings t q n ws own waits same = record { number = n; words = ws; answer = rw (own, same); awaited = rw same at waits; put = rw same }

  takes_brings :
      (m : Message) → NoneApply (message_refusals now m) → is_in p (takes_in now m).after.cache.present ≡ true →
      Brings now p (Ok m) (takes_in now m).after.cache
  takes_brings (PageReply t q n ws) none there =
      reply_brings t q n ws (eqb-true t _ (not-false _ none.0)) (page_awaited q n _ (not-false _ none.1.0)) (same_page q there)
  takes_brings (LockGranted t l n) none there = absurd (false≢true there)
  takes_brings m none there = absurd (both_ways _ absent there)

  reads_brings :
      (r : Result Message Refusal) → is_in p (station_reads now r).after.cache.present ≡ true → Brings now p r (station_reads now r).after.cache
  reads_brings (Ok m) =
      unless_either (λ r. is_in p r.after.cache.present ≡ true → Brings now p (Ok m) r.after.cache) (message_refusals now m) now (takes_in now m)
      (λ _ there. absurd (both_ways _ absent there)) (takes_brings m)
  reads_brings (Err why) = λ there. absurd (both_ways _ absent there)

pub installed_by_the_last : InstalledByTheLast
unfolding station_after
installed_by_the_last s n seen (Calls c) p absent there = absurd (both_ways _ absent (rw (calls_pages (station_after (begun s n) seen) c) at there))
installed_by_the_last s n seen (Comes bytes) p absent there =
    let k = station_sound s n seen in
    let b = reads_brings (station_after (begun s n) seen) p absent (parse bytes) there in
    record {
      bytes = bytes;
      words = b.words;
      came = refl;
      number = b.number;
      answer = rw k.named at b.answer;
      asked = rw b.awaited at k.asked;
      put = b.put;
    }
