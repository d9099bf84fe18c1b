use Rattle.std.specs.Prelude.{◌≡◌, ◌++◌, length}
use Rattle.markup.specs.Roles.{word_html, state_after_word}
use Rattle.markup.proofs.word.push_word.Given as goal

abbrev pub invariant-loop-byte : goal.invariant-loop-byte
invariant-loop-byte l = record {
  written : l.page.items ++ word_html l.state_here l.before l.rest ≡ l.initial.page.items ++ word_html l.fn.state 32 l.word;
  after : state_after_word l.state_here l.before l.rest ≡ state_after_word l.fn.state 32 l.word;
}

abbrev pub decreases-loop-byte : goal.decreases-loop-byte
decreases-loop-byte l = length l.rest
