use Rattle.std.proofs.Common.{◌≡◌, List, [], ◌∷◌, map, refl, ap, ◌∙◌}
use Rattle.std.proofs.lemmas.List.{take_all}
use Rattle.pq_lists.proofs.Holding.{all_map_read}
use Rattle.pq_model.specs.Install.{IsLawfulList}
use Rattle.pq_model.specs.SwitchMachine.{applies_all, no_tables}
use Rattle.pq_net.proofs.opening.all_tables.Goals as goal

-- what is made of the images is made of the values at once
at_once : {A B C : Type 0} (f : A → B) (g : B → C) (xs : List A) → map (λ x. g (f x)) xs ≡ map g (map f xs)
at_once f g [] = refl
at_once f g (x ∷ xs) = λ i. g (f x) ∷ at_once f g xs i

pub tables_after-requires : goal.tables_after-requires
tables_after-requires c =
    rw c.deref.ensures.value
    (all_map_read c.args.lists.now (λ ms. ms.items) IsLawfulList _ c.messages-item.result c.requires c.loop-messages-test.true
    c.messages-item.is)

pub returns : goal.returns
returns c =
    c.loop-messages.invariant
    ∙ ap (map (λ ms. applies_all no_tables ms.items)) (take_all c.loop-messages.messages-index c.args.lists.now c.loop-messages-test.false)
    ∙ at_once (λ ms. ms.items) (applies_all no_tables) c.args.lists.now
