-- Which entries have a label.
-- Internal to the code: no public clause cites it.
use Rattle.std.specs.Prelude.{Bool, true, false}
use Rattle.frame.specs.Words.{Kind, Float, Ess, Axiom, Prove}

-- statements of the kind have a label
abbrev pub is_labelled_kind : Kind → Bool
is_labelled_kind Float = true
is_labelled_kind Ess = true
is_labelled_kind Axiom = true
is_labelled_kind Prove = true
is_labelled_kind kind = false
