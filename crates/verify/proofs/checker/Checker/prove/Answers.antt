use Rattle.verify.proofs.Words.{◌++◌, ◌+◌, ◌∙◌, before, take, sym, subst, start, IfOk, items_of, mandatory_labels, IsRight, IsAnswerIfAny, AreEntries}
use Rattle.std.specs.Prelude.{◌*◌}
use Rattle.frame.specs.Sizes.{assertion_size}
use Rattle.verify.proofs.CodeWorkLemmas.{compressed-counts, compressed-counts-none, counted-after, counted-none, counted-past, first-counted}
use Rattle.verify.proofs.RightLemmas.{unwritten, none-listed, one-listed, many, read-proves, read-writes}
use Rattle.verify.specs.Counted.{HasCountedAnswer}
use Rattle.verify.specs.Work.{items_work}
use Rattle.verify.proofs.checker.Checker.prove.Goals as goal

pub returns-in_default : goal.returns-in_default
returns-in_default c =
    let S = c.args.frames.now.statements in
    let at = c.args.at in
    let tokens = c.args.tokens.now in
    let s = c.requires.provable.0 in
    let compressed = sym c.is_compressed.ensures ∙ c.if-not-is_compressed.false in
    let are = c.as_slice-count.ensures.value ∙ c.in_ok-fill_mandatory.ensures.mandatory s c.requires.provable.1 in
    let none = rw c.in_default.is at c.in_ok-heading.ensures.read in
    record {
      answer = unwritten S at s tokens c.requires.provable.1 compressed c.as_slice-count.result.now are none;
      counted =
          counted-none S at s c.requires.provable.1.stands tokens c.args.meter.now
          (compressed-counts-none S at s c.requires.provable.1.stands tokens compressed (none (mandatory_labels S at s) (many S at s tokens c.requires.provable.1 compressed c.as_slice-count.result.now are)));
    }

pub returns-then-not-branch : goal.returns-then-not-branch
returns-then-not-branch c =
    let S = c.args.frames.now.statements in
    let at = c.args.at in
    let tokens = c.args.tokens.now in
    let s = c.requires.provable.0 in
    let compressed = sym c.is_compressed.ensures ∙ c.if-not-is_compressed.false in
    let heading = rw c.in-Some.is at c.in_ok-heading.ensures.read in
    let apart = c.in_ok-add_listed.ensures.apart s c.requires.provable.1 in
    record {
      answer = one-listed S at s tokens c.requires.provable.1 compressed _ _ _ _ heading c.in_ok-add_listed.field-0 c.if-not-branch.true apart;
      counted =
          counted-none S at s c.requires.provable.1.stands tokens c.args.meter.now
          (compressed-counts-none S at s c.requires.provable.1.stands tokens compressed (none-listed S at s tokens c.requires.provable.1 compressed _ _ _ _ heading c.in_ok-add_listed.field-0 c.if-not-branch.true apart));
    }

pub returns-then-is_past-clause-counted : goal.returns-then-is_past-clause-counted
returns-then-is_past-clause-counted c =
    let S = c.args.frames.now.statements in
    let at = c.args.at in
    let tokens = c.args.tokens.now in
    let s = c.requires.provable.0 in
    let compressed = sym c.is_compressed.ensures ∙ c.if-not-is_compressed.false in
    let heading = rw c.in-Some.is at c.in_ok-heading.ensures.read in
    let apart = c.in_ok-add_listed.ensures.apart s c.requires.provable.1 in
    let long = many S at s tokens c.requires.provable.1 compressed c.as_slice-count.result.now (c.as_slice-count.ensures.value ∙ c.in_ok-fill_mandatory.ensures.mandatory s c.requires.provable.1) in
    let first = first-counted c.args.meter.now c.add.new.self c.add-2.new.self (16 * c.in-Some.heading.count) (assertion_size (before S at) s) c.in_ok-work_of_tokens.field-0 c.size.result c.in_ok-work_of_tokens.ensures c.in_ok-add.ensures.counted
    (c.size.ensures s c.requires.provable.1.stands) c.in_ok-add-2.ensures.counted in
    let whole = compressed-counts S at s c.requires.provable.1.stands tokens _ _ _ _ heading _ (read-writes S at s tokens c.requires.provable.1 compressed _ _ _ _ heading c.in_ok-add_listed.field-0 c.if-not-branch.false apart long) in
    counted-past S at s c.requires.provable.1.stands tokens c.args.meter.now c.add-2.new.self (16 * c.in-Some.heading.count + assertion_size (before S at) s) _ first whole (sym c.is_past.ensures ∙ c.if-is_past.true)

pub returns : goal.returns
returns c =
    let S = c.args.frames.now.statements in
    let at = c.args.at in
    let tokens = c.args.tokens.now in
    let s = c.requires.provable.0 in
    let compressed = sym c.is_compressed.ensures ∙ c.if-not-is_compressed.false in
    let heading = rw c.in-Some.is at c.in_ok-heading.ensures.read in
    let apart = c.in_ok-add_listed.ensures.apart s c.requires.provable.1 in
    let long = many S at s tokens c.requires.provable.1 compressed c.as_slice-count.result.now (c.as_slice-count.ensures.value ∙ c.in_ok-fill_mandatory.ensures.mandatory s c.requires.provable.1) in
    let first = first-counted c.args.meter.now c.add.new.self c.add-2.new.self (16 * c.in-Some.heading.count) (assertion_size (before S at) s) c.in_ok-work_of_tokens.field-0 c.size.result c.in_ok-work_of_tokens.ensures c.in_ok-add.ensures.counted
    (c.size.ensures s c.requires.provable.1.stands) c.in_ok-add-2.ensures.counted in
    let whole = compressed-counts S at s c.requires.provable.1.stands tokens _ _ _ _ heading _ (read-writes S at s tokens c.requires.provable.1 compressed _ _ _ _ heading c.in_ok-add_listed.field-0 c.if-not-branch.false apart long) in
    let labels = mandatory_labels S at s ++ take c.in-Some.heading.count c.in-Some.heading.words in
    let entries = subst (AreEntries S at labels) (sym c.deref-2.ensures.value)
    (c.in_ok-add_listed.ensures.entries c.if-not-branch.false (mandatory_labels S at s) (c.in_ok-fill_mandatory.ensures.entries s c.requires.provable.1)) in
    record {
      answer =
          read-proves S at s tokens c.requires.provable.1 compressed _ _ _ _ heading c.in_ok-add_listed.field-0 c.if-not-branch.false apart long c.check_numbers.result
          (subst (λ ns. IfOk c.check_numbers.result (λ answer. IsAnswerIfAny answer (IsRight S at (items_of labels ns)))) c.numbers-numbers.ensures (c.check_numbers.ensures.answer labels entries));
      counted =
          counted-after S at s c.requires.provable.1.stands tokens c.args.meter.now _ _ (16 * c.in-Some.heading.count + assertion_size (before S at) s) _ first whole c.check_numbers.result
          (subst (λ ns. IfOk c.check_numbers.result (HasCountedAnswer (items_work (before S at) (items_of labels ns) start) c.add-2.new.self c.check_numbers.new.meter)) c.numbers-numbers.ensures (c.check_numbers.ensures.counted labels entries));
    }
