use Rattle.scope.proofs.Words.{◌≡◌, ◌+◌, ◌∙◌, ap, sym, subst, arith, length, length-append, rules, vec_len, ◌++◌, ◌∷◌, [], cond, map-append, Declared, kind_in, zip_kinds, names_of_kind, declared_symbols, IsNumberOf, is_symbol_kind, is_label_kind, kinds_of, AreCounted, indexes_where, CountedKind}
use Rattle.scope.proofs.AcceptLemmas.{ok_of}
use Rattle.scope.proofs.EntryLemmas.{indexes-count, new-number}
use Rattle.scope.proofs.KindsLemmas.{none-kind, their-push, length-seen}
use Rattle.scope.proofs.KindCountLemmas.{kinds-length, counted-push, indexes-push, indexes-fewer}
use Rattle.scope.proofs.numbering.Numbering.declare.Goals as goal
use Rattle.scope.proofs.numbering.Numbering.declare.Goals.{After-number_of_entry}

pub add-requires : goal.add-requires
add-requires c =
    let a = c.self.inside in
    none-kind a.names (kinds_of a.entries.items) c.args.name.now (kinds-length a.names a.entries.items c.self.invariant.same) (ap (λ names. kind_in names c.args.name.now) c.self.view_is ∙ c.requires)

pub overflow_cast-earlier_symbols : goal.overflow_cast-earlier_symbols
overflow_cast-earlier_symbols c =
    let a = c.self.inside in
    let few = indexes-fewer is_symbol_kind 0 a.entries.items in
    let are = ap length c.self.invariant.symbols_are in
    let same = c.self.invariant.same in
    let is = c.in_ok-index.ensures.code in
    let fits = c.in_ok-index.ensures.fits in
    let len = c.len-earlier_symbols.ensures in
    omega (arith, few, are, same, is, fits, len)

pub invariant_of-self-else-is_err : goal.invariant_of-self-else-is_err
invariant_of-self-else-is_err c =
    let a = c.self.inside in
    let e : CountedKind = record { kind = c.args.kind; earlier_symbols = c.len-earlier_symbols.result } in
    let new = c.push_entry-added.new in
    let no_err = sym c.if-is_err.ensures.value in
    let entries : new.entries.items ≡ a.entries.items ++ e ∷ [] = ok_of c.push_entry-added.result no_err c.push_entry-added.ensures.entries in
    let symbols = ok_of c.push_entry-added.result no_err c.push_entry-added.ensures.symbols in
    let labels = ok_of c.push_entry-added.result no_err c.push_entry-added.ensures.labels in
    let long = ap length entries ∙ length-append a.entries.items (e ∷ []) in
    let more = ap length c.in_ok-index.ensures.ok ∙ length-append a.names (c.args.name.now ∷ []) in
    let index : c.in_ok-index.index ≡ 0 + length a.entries.items = let is = c.in_ok-index.ensures.code in let same = c.self.invariant.same in omega (arith, is, same) in
    let same = c.self.invariant.same in
    let size : vec_len a.symbols ≡ length a.symbols.items = search rules in
    record {
      same = omega (arith, long, more, same);
      counted = subst (AreCounted 0) (sym entries) (counted-push 0 0 a.entries.items e c.self.invariant.counted (let are = c.len-earlier_symbols.ensures ∙ (size ∙ ap length c.self.invariant.symbols_are) in omega (arith, are)));
      symbols_are = symbols ∙ (ap (λ s. s ++ cond (is_symbol_kind c.args.kind) (c.in_ok-index.index ∷ []) []) c.self.invariant.symbols_are
          ∙ (ap (λ n. indexes_where is_symbol_kind 0 a.entries.items ++ cond (is_symbol_kind c.args.kind) (n ∷ []) []) index
          ∙ (sym (indexes-push is_symbol_kind 0 a.entries.items e) ∙ ap (indexes_where is_symbol_kind 0) (sym entries))));
      labels_are = labels ∙ (ap (λ s. s ++ cond (is_label_kind c.args.kind) (c.in_ok-index.index ∷ []) []) c.self.invariant.labels_are
          ∙ (ap (λ n. indexes_where is_label_kind 0 a.entries.items ++ cond (is_label_kind c.args.kind) (n ∷ []) []) index
          ∙ (sym (indexes-push is_label_kind 0 a.entries.items e) ∙ ap (indexes_where is_label_kind 0) (sym entries))));
    }

-- the number of symbols that were declared before
earlier_symbols : (c : After-number_of_entry) → c.len-earlier_symbols.result ≡ length (declared_symbols c.args.self.now)
earlier_symbols c =
    let a = c.self.inside in
    let size : vec_len a.symbols ≡ length a.symbols.items = search rules in
    c.len-earlier_symbols.ensures ∙ (size ∙ indexes-count is_symbol_kind a.names a.entries.items a.symbols.items c.args.self.now c.self.invariant.same c.self.invariant.symbols_are c.self.view_is)

all_before : (c : After-number_of_entry) → c.in_ok-index.index ≡ length c.args.self.now
all_before c =
    let a = c.self.inside in
    c.in_ok-index.ensures.code ∙ (sym (length-seen a.names (kinds_of a.entries.items) (kinds-length a.names a.entries.items c.self.invariant.same)) ∙ ap length c.self.view_is)

pub number_of_entry-requires : goal.number_of_entry-requires
number_of_entry-requires c =
    let a = c.self.inside in
    let few = indexes-fewer is_symbol_kind 0 a.entries.items in
    let are = ap length c.self.invariant.symbols_are in
    let same = c.self.invariant.same in
    let is = c.in_ok-index.ensures.code in
    let len = c.len-earlier_symbols.ensures in
    omega (arith, few, are, same, is, len)

seen : (c : After-number_of_entry) → zip_kinds c.add.new.self (kinds_of c.push_entry-added.new.entries.items) ≡ c.args.self.now ++ (c.args.name.now, c.args.kind) ∷ []
seen c =
    let a = c.self.inside in
    let e : CountedKind = record { kind = c.args.kind; earlier_symbols = c.len-earlier_symbols.result } in
    let entries = ok_of c.push_entry-added.result (sym c.if-is_err.ensures.value) c.push_entry-added.ensures.entries in
    ap (λ names. zip_kinds names (kinds_of c.push_entry-added.new.entries.items)) c.in_ok-index.ensures.ok
    ∙ (ap (zip_kinds (a.names ++ c.args.name.now ∷ [])) (ap kinds_of entries ∙ map-append (λ e. e.kind) a.entries.items (e ∷ []))
    ∙ (their-push a.names (kinds_of a.entries.items) c.args.name.now c.args.kind (kinds-length a.names a.entries.items c.self.invariant.same)
    ∙ ap (λ r. r ++ (c.args.name.now, c.args.kind) ∷ []) c.self.view_is))

pub returns-clause-ok : goal.returns-clause-ok
returns-clause-ok c = seen c

pub returns-clause-number : goal.returns-clause-number
returns-clause-number c =
    subst (λ (names : Declared). IsNumberOf (names_of_kind c.args.kind names) c.args.name.now c.number_of_entry.result) (sym (seen c))
    (subst (λ n. IsNumberOf (names_of_kind c.args.kind (c.args.self.now ++ (c.args.name.now, c.args.kind) ∷ [])) c.args.name.now n) (sym c.number_of_entry.ensures)
    (new-number c.args.self.now c.args.name.now c.args.kind c.in_ok-index.index c.len-earlier_symbols.result (earlier_symbols c) (all_before c)))
