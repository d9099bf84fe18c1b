use Rattle.std.proofs.iter.Next.{Yields-more}
use Rattle.std.specs.Vec.Iter.{into_iter_steps}
use Rattle.switch.proofs.Words.{◌≡◌, AllByRecursion, append_assoc, new_kept, subst, List, ◌++◌, ◌∷◌, [], ap, sym, ◌∙◌, into_iter_items, nil_from_length, taken_front, StoreState, new_stores}
use Rattle.std.proofs.lemmas.List.{append-nil}
use Rattle.switch.proofs.StoresLemmas.{new_among, new_stores-push}
use Rattle.switch.proofs.switch.new_stores.Goals as goal

pub new-requires : goal.new-requires
new-requires g c = λ stands out other.
    (let done = c.loop-keep.yielded in
    let rest = into_iter_items c.next.new.self in
    let more = Yields-more into_iter_steps c.into_iter-keep-iterator.result done c.loop-keep.keep-iterator c.in-Some.keep c.next.new.self c.loop-keep.yielded_by c.in-Some.ensures.steps in
    let split : c.args.keeps.items ≡ done ++ c.in-Some.keep ∷ rest = sym c.into_iter-keep-iterator.ensures.into_iter_gives.0 ∙ (taken_front c.into_iter-keep-iterator.result (done ++ c.in-Some.keep ∷ []) c.next.new.self more ∙ append_assoc done (c.in-Some.keep ∷ []) rest) in
    absurd (other (new_among g.K.Keep.kept done rest c.in-Some.keep (subst (λ (ks : List g.row.K.Denot). AllByRecursion (λ keep. g.K.Keep.kept keep ≡ new_kept) ks) split c.requires))))

pub loop-keep-preserved : goal.loop-keep-preserved
loop-keep-preserved g c =
    c.in_ok-push.ensures.items ∙ ap (λ (s : StoreState g.row.V.Denot). c.loop-keep.stores.items ++ s ∷ []) c.new.ensures
    ∙ ap (λ (ss : List (StoreState g.row.V.Denot)). ss ++ new_stores g.K.Keep.kept g.K.Keep.failures (c.in-Some.keep ∷ [])) c.loop-keep.invariant
    ∙ sym (new_stores-push g.K.Keep.kept g.K.Keep.failures c.loop-keep.yielded c.in-Some.keep)

pub returns : goal.returns
returns g c =
    let it = c.loop-keep.keep-iterator in
    let done = c.loop-keep.yielded in
    let none : into_iter_items it ≡ [] = nil_from_length (into_iter_items it) (sym it.rest.ok.0 ∙ c.in-None.ensures.steps.0) in
    c.loop-keep.invariant ∙ ap (λ (ks : List g.row.K.Denot). new_stores g.K.Keep.kept g.K.Keep.failures ks)
    (sym (sym c.into_iter-keep-iterator.ensures.into_iter_gives.0 ∙ (taken_front c.into_iter-keep-iterator.result done it c.loop-keep.yielded_by ∙ (ap (λ (ks : List g.row.K.Denot). done ++ ks) none ∙ append-nil done))))
