use Rattle.cluster.proofs.Words.{◌≡◌, true, false, length, refl, sym, ◌∙◌, arith, log_after, world_of, carried_size}
use Rattle.cluster.proofs.CellTieLemmas.{all_found, in_switch, no_err, no_ok}
use Rattle.cluster.proofs.log.is_log_prefix.Goals as goal

pub returns-then-is_err-clause-begins : goal.returns-then-is_err-clause-begins
returns-then-is_err-clause-begins g c = (
  λ yes. (let no : false ≡ true = yes in cc),
  λ b. absurd (no_ok c.entry.result (sym c.is_err.ensures.value ∙ c.if-is_err.true) (c.entry.ensures.node b.node)),
)

pub returns-clause-begins : goal.returns-clause-begins
returns-clause-begins g c = (
  λ yes. record {
    node = in_switch c.args.k (length c.args.switch.now.stores) c.entry.result (no_err c.entry.result (sym c.is_err.ensures.value ∙ c.if-is_err.false)) c.entry.ensures.no_node;
    begins = all_found c.args.entries.now (log_after (world_of carried_size c.args.switch.now) c.args.k) (λ i low. c.loop-slot.invariant i (omega (arith, low, c.loop-slot-test.false)));
  },
  λ b. refl,
)

pub has_entry-requires : goal.has_entry-requires
has_entry-requires g c = in_switch c.args.k (length c.args.switch.now.stores) c.entry.result (no_err c.entry.result (sym c.is_err.ensures.value ∙ c.if-is_err.false)) c.entry.ensures.no_node
