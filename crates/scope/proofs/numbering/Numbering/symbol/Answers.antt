use Rattle.scope.proofs.Words.{◌≡◌, ◌∙◌, arith, length, rules, vec_len, is_symbol_kind}
use Rattle.scope.proofs.EntryLemmas.{indexes-count, name-of-number}
use Rattle.scope.proofs.numbering.Numbering.symbol.Goals as goal

pub index-requires : goal.index-requires
index-requires c =
    let a = c.self.inside in
    let size : vec_len a.symbols ≡ length a.symbols.items = search rules in
    let count = indexes-count is_symbol_kind a.names a.entries.items a.symbols.items c.args.self.now c.self.invariant.same c.self.invariant.symbols_are c.self.view_is in
    omega (arith, c.requires, size, count)

pub name-requires : goal.name-requires
name-requires c =
    let a = c.self.inside in
    (name-of-number is_symbol_kind a.names a.entries.items a.symbols.items c.args.self.now c.args.number c.index.result.now c.self.invariant.same c.self.invariant.symbols_are c.self.view_is c.requires c.index.ensures).0

pub returns : goal.returns
returns c =
    let a = c.self.inside in
    c.name.ensures ∙ (name-of-number is_symbol_kind a.names a.entries.items a.symbols.items c.args.self.now c.args.number c.index.result.now c.self.invariant.same c.self.invariant.symbols_are c.self.view_is c.requires c.index.ensures).1
