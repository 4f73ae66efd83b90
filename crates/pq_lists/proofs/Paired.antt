-- Lists that are related place by place.
use Rattle.std.proofs.Common.{List, [], ◌∷◌}
use Rattle.std.specs.Prelude.{All}
use Rattle.std.specs.List.{AllZip}
use Rattle.std.proofs.lemmas.List.Elements.{All-cons, All-nil}

-- by a weaker relation
pub zip_weaker : {A B : Type 0} (R S : A → B → Type 0) → ((x : A) (y : B) → R x y → S x y) → (xs : List A) (ys : List B) → AllZip R xs ys → AllZip S xs ys
zip_weaker R S follows [] [] zip = tt
zip_weaker R S follows [] (b ∷ bs) zip = absurd zip
zip_weaker R S follows (a ∷ xs) [] zip = absurd zip
zip_weaker R S follows (a ∷ xs) (b ∷ bs) zip = (follows a b zip.0, zip_weaker R S follows xs bs zip.1)

-- what the relation says of the second list alone
pub zip_right : {A B : Type 0} (R : A → B → Type 0) (P : B → Type 0) → ((x : A) (y : B) → R x y → P y) → (xs : List A) (ys : List B) → AllZip R xs ys → All P ys
zip_right R P follows [] [] zip = All-nil P
zip_right R P follows [] (b ∷ bs) zip = absurd zip
zip_right R P follows (a ∷ xs) [] zip = absurd zip
zip_right R P follows (a ∷ xs) (b ∷ bs) zip = All-cons P b bs (follows a b zip.0) (zip_right R P follows xs bs zip.1)
