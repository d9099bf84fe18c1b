use Rattle.frame.proofs.Words.{◌≡◌, ◌∙◌, ◌-◌, sym, subst, arith, refl, ℕ, zero, suc, max, entry_from_ref, opening, AreGrown}
use Rattle.frame.proofs.TableLemmas.{up-to-kind}
use Rattle.frame.proofs.next_mentions.mention_closed.Goals as goal

opens : (b n : ℕ) → n ≡ max b 1 → opening b ≡ n
opens zero n e = omega (arith, e)
opens (suc b) n e = omega (arith, e)

pub loop-last-init : goal.loop-last-init
loop-last-init c =
    let l = c.args.last_active in
    let up = up-to-kind c.args.table _ l c.requires.last_active.earlier in
    record {
      within = omega (arith, up, c.last_of_kind-last.ensures);
      grown = subst (λ n. AreGrown c.args.table c.args.entries.now n c.args.mentions.now) (opens l.block c.max-from.result c.max-from.ensures) c.requires.grown;
      kept = λ d. refl;
    }

pub mention_each-requires-clause-place : goal.mention_each-requires-clause-place
mention_each-requires-clause-place c = let up = c.requires.last_active.earlier.block in (omega (arith, c.max-from.ensures), omega (arith, up, c.max-from.ensures))

pub loop-last-smaller : goal.loop-last-smaller
loop-last-smaller c =
    let e = entry_from_ref c.entry-entry.result c.entry-entry.ensures.0 in
    let up = up-to-kind c.args.table (c.loop-last.last - 1) e.last_active (c.requires.placed.earlier (c.loop-last.last - 1) e c.entry-entry.ensures.1) in
    omega (arith, up, c.last_of_kind-last-in-loop-last.ensures, c.loop-last-test.true)

pub loop-last-preserved : goal.loop-last-preserved
loop-last-preserved c =
    let e = entry_from_ref c.entry-entry.result c.entry-entry.ensures.0 in
    let up = up-to-kind c.args.table (c.loop-last.last - 1) e.last_active (c.requires.placed.earlier (c.loop-last.last - 1) e c.entry-entry.ensures.1) in
    record {
      within = omega (arith, up, c.last_of_kind-last-in-loop-last.ensures, c.loop-last-test.true, c.loop-last.invariant.within);
      grown = c.mention_each.ensures.grown;
      kept = λ d. c.mention_each.ensures.kept d ∙ c.loop-last.invariant.kept d;
    }

pub returns : goal.returns
returns c = record {
  grown = subst (λ n. AreGrown c.args.table c.args.entries.now n c.loop-last.mentions) (sym (opens c.args.last_active.block c.max-from.result c.max-from.ensures)) c.loop-last.invariant.grown;
  kept = c.loop-last.invariant.kept;
}

pub returns-in_err-mention_each : goal.returns-in_err-mention_each
returns-in_err-mention_each c = record {
  grown = subst (λ n. AreGrown c.args.table c.args.entries.now n c.mention_each.new.mentions) (sym (opens c.args.last_active.block c.max-from.result c.max-from.ensures)) c.mention_each.ensures.grown;
  kept = λ d. c.mention_each.ensures.kept d ∙ c.loop-last.invariant.kept d;
}
