use Rattle.std.proofs.Common.{arith}
use Rattle.finding.proofs.WordsLemmas.{before_none, before_on, before_all}
use Rattle.finding.proofs.words.parts_of.Goals as goal

pub loop-found-init : goal.loop-found-init
loop-found-init c = record { within = omega arith; before = before_none c.args.text.now _ c.new-parts.ensures.items }

pub loop-found-preserved : goal.loop-found-preserved
loop-found-preserved c = record {
  within = c.in-Some.ensures.within;
  before = before_on c.args.text.now c.loop-found.at c.in-Some.found.end _ c.in-Some.ensures.first c.loop-found.parts.items _ c.part_of.result
      c.loop-found.invariant.before c.part_of.ensures c.in_ok-push.ensures.items;
}

pub returns : goal.returns
returns c = before_all c.args.text.now c.loop-found.at c.loop-found.parts.items c.loop-found.invariant.before c.in_default.ensures.first
