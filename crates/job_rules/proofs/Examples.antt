-- The lines of calls, computed. Assumes nothing.
use mathlib.Core.Path.{◌≡◌, refl}
use mathlib.Core.List.{[], ◌∷◌}
use Rattle.protocol.specs.Parts.{taking, memory_step}
use Rattle.protocol.specs.Answers.{answer_of}
use Rattle.calls.specs.Calls.{well_formed, step_on, words_after}
use Rattle.messages.specs.Queues.{sent_queues}
use Rattle.listing.specs.Lines.{call_line, end_line}
use Rattle.job_rules.specs.AnswerLines.{sent_lines, answer_lines}
use Rattle.job_rules.specs.Listing.{call_lines, lines_from}

-- two calls on no words at all, each refused 1
refused_calls : lines_from 0 0 (taking ∷ memory_step ∷ []) [] ≡ call_line 1 1 0 0 ∷ call_line 2 1 0 0 ∷ end_line 2 ∷ []
unfolding lines_from call_lines answer_lines sent_lines sent_queues answer_of step_on words_after well_formed
refused_calls = refl
