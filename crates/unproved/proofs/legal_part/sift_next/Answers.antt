use Rattle.std.proofs.Common.{◌≡◌, ◌+◌, ◌∷◌, [], arith, length, length-append}
use Rattle.unproved.proofs.LegalPartLemmas.{frames-more, kept-more, left-out-more}
use Rattle.unproved.proofs.legal_part.sift_next.Goals as goal

pub find_broken_rule-requires : goal.find_broken_rule-requires
find_broken_rule-requires c = c.requires

pub returns : goal.returns
returns c = λ S i.
    let old = c.args.sifter.now in
    let s = c.args.statement in
    let kept = old.kept.items in
    let left = old.left_out.items in
    let frames = old.frames.statements in
    let next = c.in_ok-next.next in
    let broken = c.in_ok-broken.broken in
    let told = c.in_ok-broken.ensures in
    let made = c.in_ok-take_statement.ensures in
    let place : next ≡ 1 + length S = omega (arith, c.in_ok-next.ensures, i.count) in
    record {
      same = told.same;
      frames = frames-more broken frames c.find_broken_rule.new.frames.statements kept c.take_statement.new.kept.items left next s i.frames told.added made.kept;
      count = omega (arith, place, length-append S (s ∷ []));
      kept = kept-more S kept frames left s next broken i.kept i.left_out place i.frames told.broken c.take_statement.new.kept.items made.kept;
      left_out = left-out-more S kept frames left s next broken i.kept i.left_out place i.frames told.broken c.take_statement.new.left_out.items made.left_out;
    }
