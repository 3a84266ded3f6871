-- What holds at each time of a station and of what it has sent: each call and each message keeps it. Assumes nothing.
use Rattle.std.proofs.Common.{◌≡◌, ℕ, ◌<◌, ◌≤◌, true, false, not, ◌&&◌, T, eqb, nat_lt, List, [], ◌∷◌, ◌++◌, length, Some, None, Ok, Err, Option, Result, arith, length-append}
use Rattle.std.proofs.lemmas.List.{append-nil}
use Rattle.std.proofs.lemmas.Bool.{eqb-true, not-false, and_parts, true≢false, false≢true, ltb-false}
use Rattle.std.proofs.lemmas.Bool.Decides.{nat_tests}
use Rattle.basics.specs.declared.Refusal.{Refusal}
use Rattle.model.specs.declared.Message.{Message}
use Rattle.model.specs.declared.Message.TheVariants.{PageReply, DiffApplied, LockGranted, ReleaseTaken}
use Rattle.model.specs.declared.Call.{Call}
use Rattle.model.specs.declared.Call.TheVariants.{ReadWord, WriteWord, Ask, Tell, Take, Free}
use Rattle.model.specs.declared.Awaited.{Awaited}
use Rattle.model.specs.declared.Awaited.TheVariants.{Page}
use Rattle.model.specs.declared.Holding.{Holding}
use Rattle.model.specs.declared.Holding.TheVariants.{Held, Unanswered}
use Rattle.model.specs.declared.Counters.{Counters}
use Rattle.model.specs.Bytes.{parse}
use Rattle.model.specs.Cache.{is_in}
use Rattle.model.specs.Outcomes.{Outcome}
use Rattle.model.specs.Station.{StationState, Input, is_full, Calls, Comes, begun, is_waiting, is_page_awaited, is_free_to_take, call_refusals, message_refusals, frees, does, takes_in, station_reads, meets, station_after}
use Rattle.promise.specs.Station.{sent_by, ready_for, ready, NumbersRise, StationBounded, AllStationsKept}
use Rattle.promise.proofs.Rows.{NoneApply, unless_either}
use Rattle.promise.proofs.Pages.{once_push}
use Rattle.promise.proofs.Rising.{Asked, telling, rising_none}

-- what holds at each time, of what was sent so far and the station
pub record Sound (s : ℕ) (n : Counters) (sent : List Message) (now : StationState) : Type 0 where
  pub named : now.head.station ≡ s
  pub numbers : NumbersRise n now.head.counters sent
  pub asked : Asked s sent now.head.awaits
  pub bounded : StationBounded now
  pub ready : T (ready now)

-- where nothing is waited for, it is ready
idle_ready : (a : Option Awaited) (present : List ℕ) (events : ℕ) → is_waiting a ≡ false → T (ready_for a present events)
idle_ready None present events e = tt
idle_ready (Some a) present events e = absurd (true≢false e)

pub page_awaited : (p n : ℕ) (a : Option Awaited) → is_page_awaited p n a ≡ true → a ≡ Some (Page p n)
page_awaited p n (Some (Page q m)) e =
    let b = and_parts (eqb q p) (eqb m n) e in rw (eqb-true q p b.0, eqb-true m n b.1)
page_awaited p n a e = absurd (false≢true e)

-- the page that is waited for is absent, and there is room for it
room_for : (p n : ℕ) (x : StationState) → x.head.awaits ≡ Some (Page p n) → T (ready x) → (is_in p x.cache.present ≡ false) × (length x.cache.present < 256)
room_for p n x e h = let k = rw e at h in (grind (arith, nat_tests), grind (arith, nat_tests))

-- what holds again once a reply was given
abbrev Keeps : ℕ → Counters → List Message → Outcome StationState → Type 0
Keeps s n sent r = Sound s n (sent ++ r.sent) r.after

module _ {s : ℕ} {n : Counters} {sent : List Message} {now : StationState} (k : Sound s n sent now) where
  -- nothing is sent
  quiet : (y : StationState) → Sound s n sent y → Sound s n (sent ++ []) y
  quiet y h = rw (append-nil sent) h

  frees_keeps : (l : ℕ) (h : Option Holding) → is_waiting now.head.awaits ≡ false → is_free_to_take h ≡ false → Keeps s n sent (frees now l h)
  frees_keeps l None idle e = absurd (true≢false e)
  frees_keeps l (Some (Held j)) idle e = search (telling, idle_ready)
  frees_keeps l (Some (Unanswered j)) idle e = search telling

  call_keeps : (c : Call) → NoneApply (call_refusals now c) → Keeps s n sent (does now c)
  call_keeps (ReadWord w) none = quiet _ (search idle_ready)
  call_keeps (WriteWord w v) none = quiet _ (search idle_ready)
  call_keeps (Ask p) none =
      let absent = none.1.1.0 in let few = none.1.1.1.0 in
      let room : T (not (is_in p now.cache.present) && nat_lt (length now.cache.present) 256) = grind (arith, nat_tests) in
      search telling
  call_keeps (Tell p) none = search (telling, arith)
  call_keeps (Take l) none =
      let not_full = none.1.1.1.1.0 in
      let room : T (not (is_full now.head.counters.events)) = grind (arith, nat_tests) in
      search telling
  call_keeps (Free l) none = frees_keeps l (now.locks l) none.1.0 none.1.1.1.0

  message_keeps : (m : Message) → NoneApply (message_refusals now m) → Keeps s n sent (takes_in now m)
  message_keeps (PageReply t p j ws) none =
      let r = room_for p j now (page_awaited p j now.head.awaits (not-false _ none.1.0)) k.ready in
      let few : length (now.cache.present ++ p ∷ []) ≤ 256 = simp length-append (omega (arith, r.1)) in
      quiet _ (search (once_push, r.0))
  message_keeps (DiffApplied t j) none = let le = ltb-false now.head.counters.diffs j none.1.0 in quiet _ (search arith)
  message_keeps (LockGranted t l j) none = quiet _ (search arith)
  message_keeps (ReleaseTaken t l j) none = quiet _ (search)
  message_keeps m none = absurd (true≢false none.0)

  reads_keeps : (r : Result Message Refusal) → Keeps s n sent (station_reads now r)
  reads_keeps (Ok m) = unless_either (Keeps s n sent) (message_refusals now m) now (takes_in now m) (λ _. rw (append-nil sent) k) (message_keeps m)
  reads_keeps (Err why) = rw (append-nil sent) k

  -- ONE STEP: whatever comes to it.
  pub meets_keeps : (i : Input) → Keeps s n sent (meets now i)
  meets_keeps (Calls c) = unless_either (Keeps s n sent) (call_refusals now c) now (does now c) (λ _. rw (append-nil sent) k) (call_keeps c)
  meets_keeps (Comes bytes) = reads_keeps (parse bytes)

begun_sound : (s : ℕ) (n : Counters) → Sound s n [] (begun s n)
begun_sound s n = search (rising_none, arith)

pub station_sound : (s : ℕ) (n : Counters) (seen : List Input) → Sound s n (sent_by (begun s n) seen) (station_after (begun s n) seen)
unfolding station_after sent_by
station_sound s n [] = begun_sound s n
station_sound s n (i ∷ earlier) = meets_keeps (station_sound s n earlier) i

pub stations_kept : AllStationsKept
stations_kept s n seen = let k = station_sound s n seen in search
