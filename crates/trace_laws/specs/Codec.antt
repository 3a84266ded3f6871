-- What is promised of events and traces as bytes. Assumes nothing.
use Rattle.std.specs.Prelude.{◌≡◌, ℕ, ◌<◌, T, ◌⊎◌, List, Ok, Err}
use Rattle.std.specs.List.{AllByRecursion}
use Rattle.basics.specs.declared.Refusal.TheVariants.{Malformed}
use Rattle.basics.specs.Numbers.{Word}
use Rattle.trace.specs.declared.Event.{Event}
use Rattle.trace.specs.Bytes.{bytes_of, read_event, trace_bytes, read_trace}
use Rattle.trace.specs.Events.{value_of, is_known}

-- what it names is there, and its value has 32 bits
pub record InRange (e : Event) : Type 0 where
  pub known : T (is_known e)
  pub fits : Word (value_of e)

abbrev pub Bytes : List ℕ → Type 0
Bytes bs = AllByRecursion (λ b. b < 256) bs

abbrev pub EventComesBack : Type 0
EventComesBack = (e : Event) → InRange e → read_event (bytes_of e) ≡ Ok e

pub record TextOf (bs : List ℕ) (e : Event) : Type 0 where
  pub range : InRange e
  pub text : bs ≡ bytes_of e

abbrev pub EventOneText : Type 0
EventOneText = (bs : List ℕ) → Bytes bs → ((e : Event) → read_event bs ≡ Ok e → TextOf bs e)

abbrev pub TraceComesBack : Type 0
TraceComesBack = (es : List Event) → AllByRecursion InRange es → read_trace (trace_bytes es) ≡ Ok es

pub record TraceOf (bs : List ℕ) (es : List Event) : Type 0 where
  pub range : AllByRecursion InRange es
  pub text : bs ≡ trace_bytes es

-- bytes are some trace's, or they are refused as malformed
abbrev pub TraceOneText : Type 0
TraceOneText = (bs : List ℕ) → Bytes bs → ((es : List Event) × (read_trace bs ≡ Ok es) × TraceOf bs es) ⊎ (read_trace bs ≡ Err Malformed)
