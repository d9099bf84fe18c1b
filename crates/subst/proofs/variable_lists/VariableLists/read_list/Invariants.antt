use Rattle.subst.proofs.Words.{◌≡◌, ◌∷◌, take, code_image, AreLists, HasCountedImages, HasListsInside, IsListOf, compared_variables, images_at}
use Rattle.subst.proofs.variable_lists.VariableLists.read_list.Given as goal

-- the images of x and of the others so far were read, and the variables of these listed
abbrev pub invariant-loop-other : goal.invariant-loop-other
invariant-loop-other l = record {
  lists : AreLists l.pairs (images_at l.symbols l.images) l.self;
  counted : HasCountedImages (images_at l.symbols l.images) (l.x ∷ take l.other-index l.others) l.fn.self l.self;
  ranges : HasListsInside l.self;
  range : IsListOf l.pairs l.self.variables.items (code_image (images_at l.symbols l.images) l.x) l.own;
  others : l.self.others.items ≡ compared_variables l.pairs (images_at l.symbols l.images) l.x (take l.other-index l.others);
}
