-- What the code keeps, as the tables of the check. Assumes nothing.
use Rattle.std.specs.Prelude.{◌≡◌, ℕ, List}
use Rattle.trace.specs.declared.Event.{Event}
use Rattle.trace.specs.declared.Verdict.{Verdict}
use Rattle.vectors.specs.Check.{Clocks, Tables, after}
use Rattle.vectors.specs.Laws.{Known}
use Rattle.race_check.specs.declared.clocks.VectorClocks.{VectorClocks}
use Rattle.race_check.specs.declared.history.WordHistory.{WordHistory}
use Rattle.race_check.specs.Rows.{vectors_of, reads_of, writes_of}

abbrev pub clocks_of : VectorClocks → Clocks
clocks_of c = record { station = vectors_of c.stations; lock = vectors_of c.locks }

abbrev pub tables_of : ℕ → Verdict → VectorClocks → List WordHistory → Tables
tables_of n v c ws =
    record {
      places = n;
      clocks = clocks_of c;
      write = writes_of ws;
      read = reads_of ws;
      race = v.race;
      stale = v.stale;
    }

-- a trace of known events led to these tables
pub record Led (t : Tables) (es : List Event) : Type 0 where
  pub known : Known es
  pub leads : t ≡ after es

-- some trace did
abbrev pub Reached : Tables → Type 0
Reached t = ∥ ((es : List Event) × Led t es) ∥₁
