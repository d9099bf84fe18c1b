use Rattle.frame.proofs.Words.{◌≡◌, ◌∙◌, ap, sym, subst, arith, refl, length, ◌+◌, ◌++◌, ◌∷◌, [], bare, entry_by, may-declare, statements_of, AreFloatsOf, IsKeptOf, Storage, AreStored, HasMoreNames, ArePlaced, IsLastActive, IsTableOf, Disj, Var, EntryHeader, List, ℕ, Result, Ok, Err, OnErr, append-nil, kept_until, mentions_of}
use Rattle.frame.proofs.EndLemmas.{block-within, ends-next}
use Rattle.frame.proofs.EnterLemmas.{IsEntered, IsExtended, added-numbers, entered-two, kept-pushed, numbered-pushed, pushed-statements}
use Rattle.frame.proofs.NamingLemmas.{stored-naming}
use Rattle.frame.proofs.ShapeLemmas.{stored-last, stored-placed}
use Rattle.frame.proofs.extend.extend.Goals as goal
use Rattle.frame.proofs.extend.extend.Goals.{In-Some}

pub declare_next-requires : goal.declare_next-requires
declare_next-requires c =
    let k = c.args.storage.now in
    may-declare (statements_of k) c.args.stmt.now k.numbering c.requires.legal (stored-naming k c.requires.stored).kinds_match

abbrev header : In-Some → EntryHeader
header c = record { kind = c.kind-kind.result; size = c.in_ok-size.size; before = record { label_count = c.in_ok-to_u32.field-0; symbol_count = c.symbol_count.result; last_active = c.args.storage.now.last_active } }

entered : (c : In-Some) → IsEntered c.args.storage.now c.declare_next.new.storage c.args.stmt.now (header c) c.find_numbers.new.recorded c.declare_next.new.recorded
entered c = record {
  stored = c.requires.stored;
  legal = c.requires.legal;
  header = record { kind = c.kind-kind.ensures; label = c.in_ok-to_u32.ensures ∙ c.label_count.ensures; names = c.symbol_count.ensures; last_active = refl; size = c.in_ok-size.ensures.size };
  declared = c.in_ok-declare_next.ensures.numbering;
  recorded = c.find_numbers.ensures;
  recorded_after = c.in_ok-declare_next.ensures.recorded;
}

pub mention_float-requires-clause-symbols : goal.mention_float-requires-clause-symbols
mention_float-requires-clause-symbols c =
    let w = (goal.at.mention_float-requires-clause-symbols c).In-Some in
    entered-two c.args.storage.now c.declare_next.new.storage c.args.stmt.now (header w) c.find_numbers.new.recorded c.declare_next.new.recorded c.in-Some.codes.now (entered w) c.in-Some.ensures.numbers

pub mention_float-requires-clause-floats : goal.mention_float-requires-clause-floats
mention_float-requires-clause-floats c = let g = c.in_ok-declare_next.ensures.grown in rw (g.entries, g.floats) c.requires.stored.floats

any-err : {T E : Type 0} (r : Result T E) (P : Type 0) → P → OnErr r P
any-err (Ok v) P h = tt
any-err (Err e) P h = h

pub returns-in_err-mention_float-clause-after : goal.returns-in_err-mention_float-clause-after
returns-in_err-mention_float-clause-after c =
    let g = c.in_ok-declare_next.ensures.grown in
    any-err c.from_residual-in_err-mention_float.result _ (record {
      numbering = g.numbering;
      positions = g.positions;
      ends = ([], ap (λ v. v.items) g.ends ∙ sym (append-nil _));
      entries = g.entries;
      floats = rw (g.entries, g.floats) at c.mention_float.ensures.kept;
      disjoints = λ x. ap (λ ms. kept_until (length c.args.storage.now.entries) (mentions_of ms x)) g.disjoints;
      variables = λ x. ap (λ ms. kept_until (length c.args.storage.now.entries) (mentions_of ms x)) g.variables;
      last_active = g.last_active;
    })

next-placed : (old new : Storage) (ends : List ℕ) → AreStored old → HasMoreNames old new → ends ≡ new.ends.items → ArePlaced new.entries ends
next-placed old new ends stored g is = rw (g.entries, is, ap (λ v. v.items) g.ends) (stored-placed old stored)

next-last : (old new : Storage) → AreStored old → HasMoreNames old new → IsLastActive new.entries old.last_active
next-last old new stored g = rw g.entries (stored-last old stored)

pub mention_next-requires-clause-placed : goal.mention_next-requires-clause-placed
mention_next-requires-clause-placed c = next-placed c.args.storage.now c.declare_next.new.storage c.deref.result.now c.requires.stored c.in_ok-declare_next.ensures.grown c.deref.ensures.value

pub mention_next-requires-clause-last_active : goal.mention_next-requires-clause-last_active
mention_next-requires-clause-last_active c = next-last c.args.storage.now c.declare_next.new.storage c.requires.stored c.in_ok-declare_next.ensures.grown

pub mention_next-requires-clause-table : goal.mention_next-requires-clause-table
mention_next-requires-clause-table c = let g = c.in_ok-declare_next.ensures.grown in rw (g.entries, g.disjoints) c.requires.stored.disjoints

pub mention_next-requires-2-clause-placed : goal.mention_next-requires-2-clause-placed
mention_next-requires-2-clause-placed c = next-placed c.args.storage.now c.declare_next.new.storage c.deref-2.result.now c.requires.stored c.in_ok-declare_next.ensures.grown c.deref-2.ensures.value

pub mention_next-requires-2-clause-last_active : goal.mention_next-requires-2-clause-last_active
mention_next-requires-2-clause-last_active c = next-last c.args.storage.now c.declare_next.new.storage c.requires.stored c.in_ok-declare_next.ensures.grown

pub mention_next-requires-2-clause-table : goal.mention_next-requires-2-clause-table
mention_next-requires-2-clause-table c = let g = c.in_ok-declare_next.ensures.grown in rw (g.entries, g.variables) c.requires.stored.variables

pub record_end-requires : goal.record_end-requires
record_end-requires c =
    let k = c.args.storage.now in
    let g = c.in_ok-declare_next.ensures.grown in
    block-within k c.declare_next.new.storage.last_active.block c.push.new.self.items c.requires.stored (ap (λ l. l.block) g.last_active)
    (c.in_ok-push.ensures.items ∙ ap (λ v. v.items ++ 0 ∷ []) g.ends)

pub returns : goal.returns
returns c =
    let k = c.args.storage.now in
    let s = bare c.args.stmt.now in
    let h = header (goal.at.returns c).In-Some in
    let new = c.declare_next.new.storage in
    let codes = c.in-Some.codes.now in
    let told = c.in_ok-declare_next.ensures in
    let e = entered (goal.at.returns c).In-Some in
    let a = c.fill_parts.new.buffers in
    let kept : IsKeptOf k s a = c.in_ok-size.ensures.parts.kept in
    let extended : IsExtended k new c.args.stmt.now h a codes c.push-2.new.self c.last_active_after-last_active.result = record {
      grown = told.grown;
      few = told.few;
      positions = told.positions;
      kept = kept;
      pushed = rw (c.parts.ensures.symbols, c.parts.ensures.assertion) at c.in_ok-push-2.ensures.added;
      linked = c.last_active_after-last_active.ensures s (sym c.kind-kind.ensures);
    } in
    let statements = pushed-statements e c.in-Some.ensures.numbers extended in
    let at = c.len.result + 1 in
    let place : at ≡ length k.entries + 1 = omega (arith, c.len.ensures.len) in
    let entries : c.push-2.new.self ≡ k.entries ++ entry_by h codes a ∷ [] = extended.pushed ∙ ap (λ q. q ++ entry_by h codes a ∷ []) told.grown.entries in
    record {
      stored = record {
        kept = kept-pushed e c.in-Some.ensures.numbers extended;
        numbered = numbered-pushed k new c.args.stmt.now _ c.requires.stored told.numbering statements;
        ended = ends-next k s _ c.kind-kind.result new.last_active.block at c.push.new.self.items c.record_end.new.ends.items c.requires.stored c.kind-kind.ensures (ap (λ l. l.block) told.grown.last_active)
            place (c.in_ok-push.ensures.items ∙ ap (λ v. v.items ++ 0 ∷ []) told.grown.ends) c.record_end.ensures statements;
        floats = subst (λ es. AreFloatsOf es c.mention_float.new.floats) (sym extended.pushed) (c.in_ok-mention_float.ensures.floats a);
        disjoints = subst (λ es. IsTableOf Disj es c.mention_next.new.mentions) (sym extended.pushed) (c.in_ok-mention_next.ensures.table a);
        variables = subst (λ es. IsTableOf Var es c.mention_next-2.new.mentions) (sym extended.pushed) (c.in_ok-mention_next-2.ensures.table a);
      };
      added = statements;
      numbers = added-numbers e c.in-Some.ensures.numbers extended;
      after = tt;
    }
