-- A step, from the fields known before its event and those known after it.
-- Source: this project's own form.
-- The code is the same.
use Rattle.std.specs.Prelude.{ℕ}
use Rattle.run_pictures.specs.declared.step.Step.{Step}
use Rattle.run_pictures.specs.declared.step.StepStart.{StepStart}

-- the step, given the number of packets posted and the number of entries of its node's log after it
abbrev pub ended_of : StepStart → ℕ → ℕ → Step
ended_of start end_post log_len_after = record {
  node = start.node;
  act = start.act;
  first_post = start.first_post;
  end_post = end_post;
  log_len_before = start.log_len_before;
  log_len_after = log_len_after;
}
