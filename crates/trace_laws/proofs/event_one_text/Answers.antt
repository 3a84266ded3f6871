use Rattle.trace_laws.proofs.event_one_text.Goals as goal
use Rattle.trace_laws.proofs.OneEvent.{event_text}

pub returns : goal.returns
returns c = event_text
