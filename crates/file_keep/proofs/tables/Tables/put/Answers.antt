use Rattle.file_keep.proofs.Words.{arith, rules, true, ◌≡◌}
use Rattle.file_keep.proofs.TableLemmas.{finds_at, put_after, put_found}
use Rattle.std.proofs.Common.{to_z-of_z, ◌∙◌}
use Rattle.std.specs.Prelude.{pos}
use Rattle.file_keep.proofs.tables.Tables.put.Goals as goal

pub returns-then-is_same-clause-put : goal.returns-then-is_same-clause-put
returns-then-is_same-clause-put g c = λ clean.
    let sound = c.in_ok-get.ensures.sound clean in
    let fits : mir.Val.SFits mir.Syntax.w64 c.from.result = search rules in
    let id_is : c.from.result ≡ pos c.args.id = search rules in
    let row_is : c.get.new.row ≡ c.args.self.now.row = search rules in
    let there : c.in_ok-get.field-0 ≡ true = search rules in
    put_found (g.S.Store.view c.args.self.now.store) (g.S.Store.view c.get.new.self) c.args.tree c.args.id c.args.self.now.row
    sound (g.met.S.Store.ordered c.args.self.now.store sound) (c.requires.table (omega (arith, c.get.ensures.quiet.clean, clean))) (c.in_ok-get.ensures.same clean) c.requires.id
    (finds_at _ _ (pos c.args.id) c.get.new.row c.args.self.now.row c.in_ok-get.field-0 (to_z-of_z fits ∙ id_is) row_is there (c.in_ok-get.ensures.ok clean))

pub returns-clause-put : goal.returns-clause-put
returns-clause-put g c =
    put_after c.put.result (g.S.Store.view c.args.self.now.store) (g.S.Store.view c.get.new.self) (g.S.Store.view c.put.new.self) c.args.tree c.args.self.now.row
    c.in_ok-get.ensures.same c.put.ensures.quiet.clean c.put.ensures.ok
