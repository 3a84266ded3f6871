-- The vector check on paper: what it keeps, and what each event changes. Assumes nothing.
use Rattle.std.specs.Prelude.{ℕ, zero, suc, cond, List, [], ◌∷◌, Some, None, Option, ◌==◌, nat_lt}
use Rattle.basics.specs.Sizes.{put}
use Rattle.trace.specs.declared.Event.{Event}
use Rattle.trace.specs.declared.Event.TheVariants.{Read, Write}
use Rattle.trace.specs.declared.Placed.{Placed}
use Rattle.trace.specs.declared.Race.{Race}
use Rattle.trace.specs.Events.{by, reads, writes, value_of, acquires, releases}
use Rattle.vectors.specs.declared.Access.{Access}
use Rattle.vectors.specs.declared.LastWrite.{LastWrite}

-- A vector: for each station how many of its events, from its first on.
abbrev pub Vector : Type 0
Vector = ℕ → ℕ

abbrev pub greater : ℕ → ℕ → ℕ
greater a b = cond (nat_lt a b) b a

abbrev pub greatest : Vector → Vector → Vector
greatest u v j = greater (u j) (v j)

-- the first of two, or else the second
abbrev pub either : {A : Type 0} → Option A → Option A → Option A
either None y = y
either (Some x) y = Some x

-- a table with one entry changed, or none
abbrev pub changed : {A : Type 0} → Option ℕ → (A → A) → (ℕ → A) → ℕ → A
changed None f t = t
changed (Some i) f t = put i (f (t i)) t

-- of each station: how many events of each station come before its next; of each lock: the greatest of the vectors of all its releases
pub record Clocks : Type 0 where
  pub station : ℕ → Vector
  pub lock : ℕ → Vector

abbrev pub joined : (ℕ → Vector) → Option ℕ → Vector → Vector
joined locks None v = v
joined locks (Some l) v = greatest v (locks l)

-- what comes before an event: what its station knew, and for an acquire what the releases of the lock knew
abbrev pub before : Clocks → Event → Vector
before c e = joined c.lock (acquires e) (c.station (by e))

-- and the event itself
abbrev pub up_to : Clocks → Event → Vector
up_to c e = put (by e) (suc (before c e (by e))) (before c e)

abbrev pub clocks_with : Clocks → Event → Clocks
clocks_with c e =
    record { station = put (by e) (up_to c e) c.station; lock = changed (releases e) (λ v. greatest v (up_to c e)) c.lock }

-- places: how many events there were; write: of each word; read: of each word and station
pub record Tables : Type 0 where
  pub places : ℕ
  pub clocks : Clocks
  pub write : ℕ → LastWrite
  pub read : ℕ → ℕ → Access
  pub race : Option Race
  pub stale : Option ℕ

abbrev pub never : Access
never = record { count = 0; place = 0; value = 0 }

abbrev pub unwritten : LastWrite
unwritten = record { station = 0; access = never }

abbrev pub empty : Tables
empty =
    record {
      places = 0;
      clocks = record { station = λ i j. 0; lock = λ l j. 0 };
      write = λ w. unwritten;
      read = λ w j. never;
      race = None;
      stale = None;
    }

-- An access that does not come before the event, as the event that it was.
abbrev pub unordered : Vector → ℕ → Access → Event → Option Placed
unordered v station a e = cond (nat_lt (v station) a.count) (Some (record { place = a.place; event = e })) None

abbrev pub later : Option Placed → Option Placed → Option Placed
later None None = None
later None (Some q) = Some q
later (Some p) None = Some p
later (Some p) (Some q) = cond (nat_lt p.place q.place) (Some q) (Some p)

abbrev pub unordered_write : Vector → ℕ → LastWrite → Option Placed
unordered_write v w x = unordered v x.station x.access (Write x.station w x.access.value)

-- the latest among the last reads of the first n stations
unfoldable pub unordered_read : (n : ℕ) → Vector → ℕ → (ℕ → Access) → Option Placed
unordered_read zero v w rs = None
unordered_read (suc j) v w rs = later (unordered_read j v w rs) (unordered v j (rs j) (Read j w (rs j).value))

abbrev pub against_write : Tables → Vector → Option ℕ → Option Placed
against_write t v None = None
against_write t v (Some w) = unordered_write v w (t.write w)

abbrev pub against_reads : Tables → Vector → Option ℕ → Option Placed
against_reads t v None = None
against_reads t v (Some w) = unordered_read 16 v w (t.read w)

-- The latest event that conflicts with this one and does not come before it: a read is held against the last write, a write also against each station's last read.
abbrev pub unordered_with : Tables → Event → Option Placed
unordered_with t e =
    later (against_write t (before t.clocks e) (either (reads e) (writes e))) (against_reads t (before t.clocks e) (writes e))

abbrev pub race_with : ℕ → Event → Option Placed → Option Race
race_with n e None = None
race_with n e (Some p) = Some (record { earlier = p; later = record { place = n; event = e } })

-- a read that did not give what the last write left
abbrev pub stale_of : (value last place : ℕ) → Option ℕ
stale_of value last place = cond (value == last) None (Some place)

abbrev pub stale_with : Tables → Event → Option ℕ → Option ℕ
stale_with t e None = None
stale_with t e (Some w) = stale_of (value_of e) (t.write w).access.value (suc t.places)

abbrev pub access_of : Tables → Event → Access
access_of t e = record { count = up_to t.clocks e (by e); place = suc t.places; value = value_of e }

-- ONE EVENT MORE.
abbrev pub stepped : Tables → Event → Tables
stepped t e =
    record {
      places = suc t.places;
      clocks = clocks_with t.clocks e;
      write = changed (writes e) (λ _. record { station = by e; access = access_of t e }) t.write;
      read = changed (reads e) (put (by e) (access_of t e)) t.read;
      race = either t.race (race_with (suc t.places) e (unordered_with t e));
      stale = either t.stale (stale_with t e (reads e));
    }

-- after a trace, which has the latest event first
abbrev pub after : List Event → Tables
after [] = empty
after (e ∷ es) = stepped (after es) e
