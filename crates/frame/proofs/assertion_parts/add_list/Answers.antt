use Rattle.frame.proofs.Words.{◌≡◌, ◌∙◌, ap, sym, subst, arith, length, length-append, cut, AreSpansIn, with_list}
use Rattle.frame.proofs.MakeLemmas.{group-added, spans-more}
use Rattle.frame.proofs.assertion_parts.add_list.Goals as goal
use Rattle.frame.proofs.assertion_parts.add_list.Goals.{In_ok-push}

added : (c : In_ok-push) → (cut c.extend_from_slice.new.self.items c.push.new.self.items ≡ with_list c.args.list.now (cut c.args.grouped_variables.now.items c.args.groups.now.items))
    × AreSpansIn (length c.extend_from_slice.new.self.items) c.push.new.self.items
added c =
    let s = c.in_ok-span.ensures in
    let h = c.if-list-lt2.false in
    let l = ap length c.in_ok-extend_from_slice.ensures.items ∙ length-append c.args.grouped_variables.now.items c.args.list.now in
    group-added c.args.grouped_variables.now.items c.extend_from_slice.new.self.items c.args.groups.now.items c.push.new.self.items c.in_ok-span.span c.args.list.now c.in_ok-extend_from_slice.ensures.items
    (omega (arith, s.0, c.len-from.ensures)) (omega (arith, s.1, c.len.ensures)) (omega (arith, s.0, s.1, c.len-from.ensures, c.len.ensures, h, l)) c.requires.within c.in_ok-push.ensures.items

pub returns-in_err-span-clause-within : goal.returns-in_err-span-clause-within
returns-in_err-span-clause-within c = spans-more _ _ _ c.args.groups.now.items c.in_ok-extend_from_slice.ensures.items c.requires.within

pub returns-in_err-push-clause-within : goal.returns-in_err-push-clause-within
returns-in_err-push-clause-within c = subst (AreSpansIn (length c.extend_from_slice.new.self.items)) (sym c.in_err-push.ensures.items) (spans-more _ _ _ c.args.groups.now.items c.in_ok-extend_from_slice.ensures.items c.requires.within)

pub returns-clause-added : goal.returns-clause-added
returns-clause-added c = (added c).0

pub returns-clause-within : goal.returns-clause-within
returns-clause-within c = (added c).1
