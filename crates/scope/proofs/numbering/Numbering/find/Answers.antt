use Rattle.scope.proofs.Words.{◌∙◌, ap, sym, subst, arith, ℕ, slice_get, Declared, names_of_kind, kind_in, zip_kinds, IsNumberOf, kinds_of, code-name, unknown-number}
use Rattle.scope.proofs.KindsLemmas.{kind-none}
use Rattle.scope.proofs.EntryLemmas.{earlier_symbols-within, kind-of-entry, number-of-entry}
use Rattle.scope.proofs.numbering.Numbering.find.Goals as goal

pub number_of_entry-requires : goal.number_of_entry-requires
number_of_entry-requires c =
    let a = c.self.inside in
    let below = (code-name a.names c.args.name.now c.in-Some.index (sym c.in-Some.ensures.code)).0 in
    earlier_symbols-within a.names a.entries.items c.self.invariant.same c.self.invariant.counted c.entry_at-entry.result c.in-Some.index (omega (arith, below))
    (ap (λ es. slice_get es c.in-Some.index) (sym c.as_slice.ensures.value) ∙ c.entry_at-entry.ensures)

pub returns-in-Some-clause-kind : goal.returns-in-Some-clause-kind
returns-in-Some-clause-kind c =
    let a = c.self.inside in
    sym (ap (λ names. kind_in names c.args.name.now) (sym c.self.view_is)
    ∙ kind-of-entry a.names a.entries.items c.self.invariant.same c.self.invariant.counted c.entry_at-entry.result c.args.name.now c.in-Some.index (sym c.in-Some.ensures.code)
    (ap (λ es. slice_get es c.in-Some.index) (sym c.as_slice.ensures.value) ∙ c.entry_at-entry.ensures))

pub returns-in-Some-clause-number : goal.returns-in-Some-clause-number
returns-in-Some-clause-number c =
    let a = c.self.inside in
    subst (λ (names : Declared). IsNumberOf (names_of_kind c.entry_at-entry.result.kind names) c.args.name.now c.number_of_entry.result) c.self.view_is
    (subst (λ (n : ℕ). IsNumberOf (names_of_kind c.entry_at-entry.result.kind (zip_kinds a.names (kinds_of a.entries.items))) c.args.name.now n) (sym c.number_of_entry.ensures)
    (number-of-entry a.names a.entries.items c.self.invariant.same c.self.invariant.counted c.entry_at-entry.result c.args.name.now c.in-Some.index (sym c.in-Some.ensures.code)
    (ap (λ es. slice_get es c.in-Some.index) (sym c.as_slice.ensures.value) ∙ c.entry_at-entry.ensures)))

pub returns-in-None-clause-kind : goal.returns-in-None-clause-kind
returns-in-None-clause-kind c =
    let a = c.self.inside in
    sym (ap (λ names. kind_in names c.args.name.now) (sym c.self.view_is) ∙ kind-none a.names (kinds_of a.entries.items) c.args.name.now (unknown-number a.names c.args.name.now c.in-None.ensures.code))
