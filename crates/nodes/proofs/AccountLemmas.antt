-- The account of a lock once a moment is recorded.
use Rattle.std.proofs.Common.{◌≡◌, ℕ, ◌+◌, Bool, true, List, ap, sym, ◌∙◌, arith}
use Rattle.logbook.specs.Pages.{Book, Named}
use Rattle.net.specs.Agree.{IsPrefixOf}
use Rattle.nodes.specs.declared.moment.Moment.{Moment}
use Rattle.nodes.specs.Moments.{lock_of, count_of}
use Rattle.nodes.specs.Runs.{IsRun}
use Rattle.nodes.specs.Book.{AddsTo}
use Rattle.nodes.specs.Account.{IsAccount, Records}
use Rattle.nodes.proofs.PrefixLemmas.{prefix_trans}
use Rattle.nodes.proofs.MomentLemmas.{count-own}

module _ (book : Book) (word : Named) (count : ℕ) (belongs : Bool) (old seen : List Moment) (m : Moment) (new : List Moment) (is : IsAccount book word count belongs old) (after : IsPrefixOf old seen) (adds : AddsTo seen word.key count m new) where
  pub account_adds : lock_of m ≡ word.key → IsRun new → IsAccount book word (count + 1) belongs new
  account_adds lock run =
      let own = ap (λ (ms : List Moment). count_of word.key ms) adds.is ∙ count-own word.key adds.before m lock in
      record {
        is_word = is.is_word;
        in_range = is.in_range;
        counted = λ b. (let counted = adds.counted in omega (arith, own, counted));
        run = run;
      }

  pub account_records : belongs ≡ true → (first : List Moment) → IsPrefixOf first seen → (again : List Moment) → again ≡ new
      → Records (record { lock = word.key; belongs = belongs; history = old }) (record { lock = word.key; belongs = belongs; history = again }) first new m
  account_records b first pre again same = record {
    belonged = b;
    before = adds.before;
    after_account = prefix_trans old seen adds.before after adds.later;
    after_seen = prefix_trans first seen adds.before pre adds.later;
    none_since = adds.counted ∙ sym (is.counted b);
    history = same ∙ adds.is;
    seen = sym same;
  }
