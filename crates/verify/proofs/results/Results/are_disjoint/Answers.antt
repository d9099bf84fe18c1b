use Rattle.frame.specs.MandatoryPairs.{has_two_or_more_items}
use Rattle.frame.specs.NumberedWork.{lists_work}
use Rattle.subst.proofs.PastLemmas.{err_weaker}
use Rattle.subst.specs.ReadImages.{is_over}
use Rattle.verify.proofs.PairCountLemmas.{past-left}
use Rattle.verify.specs.CitedPairs.{cited_lists}
use Rattle.verify.specs.Metered.{left_of, with_work}
use Rattle.verify.proofs.Words.{◌≡◌, ◌∙◌, true, filter, ap, sym, subst, images_at, IfOk-weaker, on_ok_weaker, are_numbered_lists_disjoint, AreOver, CodeImages, HeldResults}
use Rattle.verify.proofs.results.Results.are_disjoint.Goals as goal

pub are_lists_disjoint-all-requires-clause-named : goal.are_lists_disjoint-all-requires-clause-named
are_lists_disjoint-all-requires-clause-named c =
    subst (AreOver c.args.pairs.now.names) (sym (ap (λ v. v.images) c.self.view_is) ∙ sym (ap (λ s. images_at s c.self.inside.images) c.as_slice.ensures.symbols)) c.requires.over

pub returns-clause-disjoint : goal.returns-clause-disjoint
returns-clause-disjoint c =
    IfOk-weaker c.are_lists_disjoint-all.result _ _
    (λ ok e. e ∙ ap (λ (σ : CodeImages). are_numbered_lists_disjoint c.args.pairs.now σ (cited_lists c.args.cited.now)) (ap (λ s. images_at s c.self.inside.images) c.as_slice.ensures.symbols ∙ ap (λ v. v.images) c.self.view_is))
    c.are_lists_disjoint-all.ensures.disjoint

pub returns-clause-counted : goal.returns-clause-counted
returns-clause-counted c =
    on_ok_weaker c.are_lists_disjoint-all.result
    (λ counted. record {
      made = counted.made;
      reordered = counted.reordered;
      counted = c.in_ok-add.ensures.counted
          ∙ ap (with_work c.args.meter.now) (c.work.ensures ∙ (counted.counted.work
          ∙ ap (λ (σ : CodeImages). lists_work c.args.pairs.now σ (filter has_two_or_more_items counted.made)) (ap (λ s. images_at s c.self.inside.images) c.as_slice.ensures.symbols ∙ ap (λ v. v.images) c.self.view_is)));
    })
    c.are_lists_disjoint-all.ensures.counted

pub returns-clause-costly : goal.returns-clause-costly
returns-clause-costly c =
    err_weaker c.are_lists_disjoint-all.result _ _
    (λ stop costly is.
    let past = costly is in
    let lists = filter has_two_or_more_items past.made in record {
      count = past.count;
      made = past.made;
      reordered = past.reordered;
      past = past-left (with_work c.args.meter.now c.args.self.now.results.weight) (lists_work c.args.pairs.now c.args.self.now.images lists)
          (subst (λ (σ : CodeImages). is_over (left_of (with_work c.args.meter.now c.args.self.now.results.weight)) (lists_work c.args.pairs.now σ lists) ≡ true) (ap (λ s. images_at s c.self.inside.images) c.as_slice.ensures.symbols ∙ ap (λ v. v.images) c.self.view_is)
          (subst (λ l. is_over l (lists_work c.args.pairs.now (images_at c.as_slice.result.now c.self.inside.images) lists) ≡ true) (c.begin_citation.ensures.left ∙ (c.left_after.ensures ∙ ap (λ (v : HeldResults). left_of (with_work c.args.meter.now v.results.weight)) c.self.view_is)) past.past));
    })
    c.are_lists_disjoint-all.ensures.costly
