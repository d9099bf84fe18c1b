use Rattle.world.proofs.Words.{Option, set, ap, ◌∙◌, subst, length, refl, IfOk, IfSome, IsSomeAnd, slice_get_read, Verdict, WorldView, next_entry, IsApplied}
use Rattle.world.proofs.AppliedNext.{call_applies, call_none, call_keeps}
use Rattle.world.proofs.world.World.apply_next.Goals as goal

pub invariant_of-self-2 : goal.invariant_of-self-2
invariant_of-self-2 c =
    call_keeps (record { history = c.self.inside.net.history; work_limit = c.self.inside.work_limit; libraries = c.self.inside.libraries.items }) c.args.k c.in-Some.node_library.now c.apply_next_of_log.new.node_library c.apply_next_of_log.result
    (slice_get_read c.self.inside.libraries.items (length c.self.inside.libraries.items) c.args.k c.in-Some.node_library.now refl c.in-Some.ensures.item.3.0 c.in-Some.ensures.value)
    c.apply_next_of_log.ensures c.self.invariant

pub returns-clause-applied : goal.returns-clause-applied
returns-clause-applied c =
    subst (λ (old : WorldView). IfSome (next_entry old c.args.k) (λ entry. IfOk c.apply_next_of_log.result (λ (answer : Option Verdict). IsSomeAnd answer (λ verdict.
    IsApplied old c.args.k entry verdict (record { history = c.self.inside.net.history; work_limit = c.self.inside.work_limit; libraries = set c.self.inside.libraries.items c.args.k c.apply_next_of_log.new.node_library }))))) c.self.view_is
    (call_applies (record { history = c.self.inside.net.history; work_limit = c.self.inside.work_limit; libraries = c.self.inside.libraries.items }) c.args.k c.in-Some.node_library.now c.apply_next_of_log.new.node_library c.apply_next_of_log.result
    (slice_get_read c.self.inside.libraries.items (length c.self.inside.libraries.items) c.args.k c.in-Some.node_library.now refl c.in-Some.ensures.item.3.0 c.in-Some.ensures.value)
    c.apply_next_of_log.ensures)

pub returns-clause-none : goal.returns-clause-none
returns-clause-none c = λ there missing.
    (call_none (record { history = c.self.inside.net.history; work_limit = c.self.inside.work_limit; libraries = c.self.inside.libraries.items }) c.args.k c.in-Some.node_library.now c.apply_next_of_log.new.node_library c.apply_next_of_log.result
    (slice_get_read c.self.inside.libraries.items (length c.self.inside.libraries.items) c.args.k c.in-Some.node_library.now refl c.in-Some.ensures.item.3.0 c.in-Some.ensures.value)
    c.apply_next_of_log.ensures
    (ap (λ (r : WorldView). next_entry r c.args.k) c.self.view_is ∙ missing)).0

pub returns-clause-same_if_none : goal.returns-clause-same_if_none
returns-clause-same_if_none c = λ missing.
    (call_none (record { history = c.self.inside.net.history; work_limit = c.self.inside.work_limit; libraries = c.self.inside.libraries.items }) c.args.k c.in-Some.node_library.now c.apply_next_of_log.new.node_library c.apply_next_of_log.result
    (slice_get_read c.self.inside.libraries.items (length c.self.inside.libraries.items) c.args.k c.in-Some.node_library.now refl c.in-Some.ensures.item.3.0 c.in-Some.ensures.value)
    c.apply_next_of_log.ensures
    (ap (λ (r : WorldView). next_entry r c.args.k) c.self.view_is ∙ missing)).1 ∙ c.self.view_is
