use Rattle.switch.proofs.Words.{◌≡◌, List, ◌++◌, [], ap, sym, ◌∙◌, subst, into_iter_items, nil_from_length, taken_front, append-nil, kept_parts_of, views_of, AreResumedStores}
use Rattle.switch.proofs.ResumeLemmas.{resumed_more}
use Rattle.switch.proofs.switch.resume_stores.Goals as goal

pub loop-keep-preserved : goal.loop-keep-preserved
loop-keep-preserved g c =
    resumed_more g.K.Keep.kept g.K.Keep.failures c.loop-keep.yielded c.in-Some.keep c.loop-keep.records.items _ _ c.loop-keep.stores.items _ _ c.in_ok-push.ensures.items c.in_ok-push-2.ensures.items c.loop-keep.invariant c.resume-store.ensures

pub returns : goal.returns
returns g c =
    let it = c.loop-keep.keep-iterator in
    let done = c.loop-keep.yielded in
    let none : into_iter_items it ≡ [] = nil_from_length (into_iter_items it) (sym it.rest.ok.0 ∙ c.in-None.ensures.steps.0) in
    let whole = sym c.into_iter-keep-iterator.ensures.into_iter_gives.0 ∙ (taken_front c.into_iter-keep-iterator.result done it c.loop-keep.yielded_by ∙ (ap (λ (ks : List g.row.K.Denot). done ++ ks) none ∙ append-nil done)) in
    subst (λ (ks : List g.row.K.Denot). AreResumedStores g.K.Keep.kept g.K.Keep.failures ks (kept_parts_of c.loop-keep.records.items) (views_of c.loop-keep.stores.items)) (sym whole) c.loop-keep.invariant
