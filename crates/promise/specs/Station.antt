-- What is promised of a station, whatever calls and bytes came to it. Assumes nothing.
use Rattle.std.specs.Prelude.{◌≡◌, ℕ, ◌+◌, ◌-◌, ◌≤◌, Bool, true, false, not, ◌&&◌, T, List, [], ◌∷◌, ◌++◌, length, Some, None, Ok, Option, ◌≢◌, nat_lt}
use mathlib.Core.List.{Memᴰ}
use Rattle.std.specs.List.{range_with_len, fold, flat_map}
use Rattle.basics.specs.declared.Refusal.{Refusal}
use Rattle.basics.specs.Refusals.{number_of}
use Rattle.model.specs.declared.Message.{Message}
use Rattle.model.specs.declared.Message.TheVariants.{PageRequest, PageReply, Diff, LockRequest}
use Rattle.model.specs.declared.Call.{Call}
use Rattle.model.specs.declared.Call.TheVariants.{Tell}
use Rattle.model.specs.declared.Awaited.{Awaited}
use Rattle.model.specs.declared.Awaited.TheVariants.{Page, Lock}
use Rattle.model.specs.declared.Counters.{Counters}
use Rattle.model.specs.Bytes.{parse}
use Rattle.model.specs.Cache.{is_in, installed}
use Rattle.model.specs.Outcomes.{Row, refused}
use Rattle.model.specs.Station.{StationState, Input, Comes, begun, call_refusals, message_refusals, is_full, calls, station_hears, meets, station_after}

-- A refusal changes nothing, gives nothing, sends nothing, and is no event.
abbrev pub StationRefusedKeeps : Type 0
StationRefusedKeeps = (s : StationState) (i : Input) (why : Refusal) → (meets s i).refusal ≡ Some why → meets s i ≡ refused why [] s

-- The refusal that is given is that of a row that applies, and no row with a lower number applies; where none is given, none applies.
abbrev pub Lowest : List Row → Option Refusal → Type 0
Lowest rows (Some why) =
    ((row : Row) × Memᴰ row rows × (row.applies ≡ true) × (row.why ≡ why)) ×
    ((row : Row) → Memᴰ row rows → row.applies ≡ true → number_of why ≤ number_of row.why)
Lowest rows None = (row : Row) → Memᴰ row rows → row.applies ≡ false

pub record LowestGiven (s : StationState) : Type 0 where
  pub calls : (c : Call) → Lowest (call_refusals s c) (calls s c).refusal
  pub messages : (m : Message) → Lowest (message_refusals s m) (station_hears s m).refusal

abbrev pub AlwaysLowest : Type 0
AlwaysLowest = (s : StationState) → LowestGiven s

-- While it waits for a page no call but tell is done; while it waits for a lock, none.
pub record Waiting (s : StationState) : Type 0 where
  pub page : (p n : ℕ) (c : Call) → s.head.awaits ≡ Some (Page p n) → (calls s c).refusal ≡ None → (q : ℕ) × (c ≡ Tell q)
  pub lock : (l n : ℕ) (c : Call) → s.head.awaits ≡ Some (Lock l n) → (calls s c).refusal ≢ None

abbrev pub WaitingHolds : Type 0
WaitingHolds = (s : StationState) → Waiting s

-- all messages that it sent, in the order in which it sent them; what came to it has the latest first
unfoldable pub sent_by : StationState → List Input → List Message
sent_by start [] = []
sent_by start (i ∷ earlier) = sent_by start earlier ++ (meets (station_after start earlier) i).sent

-- the number of a page request, of a lock request, of a diff; any other message has none
abbrev pub fetch_number : Message → List ℕ
fetch_number (PageRequest s p n) = n ∷ []
fetch_number m = []

abbrev pub acquire_number : Message → List ℕ
acquire_number (LockRequest s l n) = n ∷ []
acquire_number m = []

abbrev pub diff_number_in : Message → List ℕ
diff_number_in (Diff s n p cs) = n ∷ []
diff_number_in m = []

-- The numbers of its page requests, of its lock requests and of its diffs each rise by one from where they began, up to what it counts.
pub record Rising (numbers : Message → List ℕ) (from up_to : ℕ) (sent : List Message) : Type 0 where
  pub started : from ≤ up_to
  pub each : flat_map numbers sent ≡ range_with_len (from + 1) (up_to - from)

pub record NumbersRise (from up_to : Counters) (sent : List Message) : Type 0 where
  pub fetches : Rising fetch_number from.fetches up_to.fetches sent
  pub acquires : Rising acquire_number from.acquires up_to.acquires sent
  pub diffs : Rising diff_number_in from.diffs up_to.diffs sent

-- the last page request among these messages
abbrev pub fetch_of : Message → Option Message → Option Message
fetch_of (PageRequest s p n) last = Some (PageRequest s p n)
fetch_of m last = last

abbrev pub last_fetch : Option Message → List Message → Option Message
last_fetch last ms = fold (λ o m. fetch_of m o) last ms

-- A page that was absent and is present then was brought by the answer to the very last page request, and it is what the answer has.
pub record Installs (s : ℕ) (n : Counters) (seen : List Input) (i : Input) (p : ℕ) : Type 0 where
  pub bytes : List ℕ
  pub words : List ℕ
  pub came : i ≡ Comes bytes
  pub number : ℕ
  pub answer : parse bytes ≡ Ok (PageReply s p number words)
  pub asked : last_fetch None (sent_by (begun s n) seen) ≡ Some (PageRequest s p number)
  pub put : (station_after (begun s n) (i ∷ seen)).cache ≡ installed p words (station_after (begun s n) seen).cache

abbrev pub InstalledByTheLast : Type 0
InstalledByTheLast =
    (s : ℕ) (n : Counters) (seen : List Input) (i : Input) (p : ℕ) → is_in p (station_after (begun s n) seen).cache.present ≡ false →
    is_in p (station_after (begun s n) (i ∷ seen)).cache.present ≡ true → Installs s n seen i p

-- What it waits for can be taken in when it comes: there is room for the page, which is absent, and the acquire can be counted.
abbrev pub ready_for : Option Awaited → (present : List ℕ) (events : ℕ) → Bool
ready_for None present events = true
ready_for (Some (Page p n)) present events = not (is_in p present) && nat_lt (length present) 256
ready_for (Some (Lock l n)) present events = not (is_full events)

abbrev pub ready : StationState → Bool
ready s = ready_for s.head.awaits s.cache.present s.head.counters.events

-- each page stands in the list once
abbrev pub once : List ℕ → Bool
once [] = true
once (p ∷ ps) = not (is_in p ps) && once ps

pub record StationBounded (s : StationState) : Type 0 where
  pub few : length s.cache.present ≤ 256
  pub once : T (once s.cache.present)
  pub acknowledged : s.head.acknowledged ≤ s.head.counters.diffs

-- THE PROMISES of a station, over every list of calls and byte strings, the latest first.
pub record StationKept (s : ℕ) (n : Counters) (seen : List Input) : Type 0 where
  pub numbers : NumbersRise n (station_after (begun s n) seen).head.counters (sent_by (begun s n) seen)
  pub bounded : StationBounded (station_after (begun s n) seen)
  pub ready : T (ready (station_after (begun s n) seen))

abbrev pub AllStationsKept : Type 0
AllStationsKept = (s : ℕ) (n : Counters) (seen : List Input) → StationKept s n seen
