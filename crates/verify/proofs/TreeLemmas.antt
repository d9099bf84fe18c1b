-- The equations of the derivation of a tree.
use Rattle.verify.proofs.Words.{◌≡◌, ℕ, map, Vec, Global, sym, ◌∙◌, ap, Tree, Derivation, derivation_of, derivation_step, hyp, apply, from_list, rolls-Hyp, rolls-Apply, fold-roll-Tree}
use Rattle.verify.specs.declared.tree.Tree.TheVariants.{Hyp, Apply}

pub derivation-hyp : (i : ℕ) → derivation_of (Hyp i) ≡ hyp i
derivation-hyp i = ap derivation_of (sym (rolls-Hyp i)) ∙ fold-roll-Tree Derivation derivation_step _

pub derivation-apply : (a : ℕ) (children : Vec Tree Global) → derivation_of (Apply a children) ≡ apply a (from_list (map derivation_of children.items))
derivation-apply a children = ap derivation_of (sym (rolls-Apply a children)) ∙ fold-roll-Tree Derivation derivation_step _
