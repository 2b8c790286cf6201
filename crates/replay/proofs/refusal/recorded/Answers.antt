use Rattle.std.proofs.Common.{◌≡◌, ℕ, Ok, Err, Result, MatchResult, IsErrAnd, ap, ◌∙◌}
use Rattle.lines.specs.Records.{record_of}
use Rattle.lines.specs.declared.record.Coded.{Coded}
use Rattle.replay.specs.Refusals.{coded, answer_coded}
use Rattle.replay.specs.declared.refusal.Refusal.{Refusal}
use Rattle.replay.proofs.refusal.recorded.Goals as goal

is_coded : (outcome : Result ℕ Refusal) (answer : Result ℕ Coded) → MatchResult outcome (λ x. answer ≡ Ok x) (λ e. IsErrAnd answer (λ r. r ≡ coded e)) → answer ≡ answer_coded outcome
is_coded (Ok word) answer h = h
is_coded (Err e) (Ok word) h = absurd h
is_coded (Err e) (Err r) h = ap Err h

pub returns : goal.returns
returns c = c.record.ensures ∙ ap record_of (is_coded _ _ c.map_err.ensures.cases)
