use Rattle.std.proofs.Common.{rules}
use Rattle.net.proofs.Words.{◌≡◌, ◌++◌, ◌∷◌, [], length, ap, sym, ◌∙◌, arith, append_assoc, into_iter_items, into_iter_steps, IsWeights, restarted_node}
use Rattle.std.proofs.iter.Next.{Yields-more}
use Rattle.net.proofs.HistoryLemmas.{begun_count, begun_more, parts_more}
use Rattle.net.proofs.AgreementLemmas.{stands_within, taken_front}
use Rattle.net.proofs.net.begin_nodes.Goals as goal

pub overflow_cast-k : goal.overflow_cast-k
overflow_cast-k g c =
    let it = c.into_iter-stored-iterator.result in
    let done = c.loop-stored.yielded in
    let x = c.in-Some.stored in
    let rest = into_iter_items c.next.new.self in
    let more = Yields-more into_iter_steps it done c.loop-stored.stored-iterator x c.next.new.self c.loop-stored.yielded_by c.in-Some.ensures.steps in
    let split : c.args.records.items ≡ done ++ x ∷ rest = sym c.into_iter-stored-iterator.ensures.into_iter_gives.0 ∙ (taken_front it (done ++ x ∷ []) c.next.new.self more ∙ append_assoc done (x ∷ []) rest) in
    let low = stands_within done rest c.args.records.items x split in
    let count = begun_count c.args.weights done c.loop-stored.nodes.items c.loop-stored.invariant.1 in
    let few : IsWeights c.args.weights = search rules in
    omega (arith, low, count, few.few, c.requires, c.len-k.ensures)

pub begin_node-requires : goal.begin_node-requires
begin_node-requires g c =
    let it = c.into_iter-stored-iterator.result in
    let done = c.loop-stored.yielded in
    let x = c.in-Some.stored in
    let rest = into_iter_items c.next.new.self in
    let more = Yields-more into_iter_steps it done c.loop-stored.stored-iterator x c.next.new.self c.loop-stored.yielded_by c.in-Some.ensures.steps in
    let split : c.args.records.items ≡ done ++ x ∷ rest = sym c.into_iter-stored-iterator.ensures.into_iter_gives.0 ∙ (taken_front it (done ++ x ∷ []) c.next.new.self more ∙ append_assoc done (x ∷ []) rest) in
    let low = stands_within done rest c.args.records.items x split in
    let count = begun_count c.args.weights done c.loop-stored.nodes.items c.loop-stored.invariant.1 in
    omega (arith, low, count, c.requires, c.len-k.ensures)

pub loop-stored-preserved : goal.loop-stored-preserved
loop-stored-preserved g c =
    let count : c.len-k.result ≡ length c.loop-stored.nodes.items = omega (arith, c.len-k.ensures, c.loop-stored.nodes.ok.0) in (
      parts_more c.loop-stored.yielded c.in-Some.stored c.loop-stored.begins.items _ c.of.result c.in_ok-push.ensures.items c.of.ensures c.loop-stored.invariant.0,
      begun_more c.args.weights c.loop-stored.yielded c.in-Some.stored c.loop-stored.nodes.items _ c.begin_node.result c.in_ok-push-2.ensures.items (c.begin_node.ensures ∙ ap (λ k. restarted_node k c.args.weights c.in-Some.stored.kept) count) c.loop-stored.invariant.1,
    )
