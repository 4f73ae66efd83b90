-- Messages of the trees of switches.
use Rattle.std.proofs.Common.{◌≡◌, ◌<◌, ◌+◌, ℕ, zero, suc, List, [], ◌∷◌, ◌++◌, take, length, map, get_or, sym, ap, subst, ◌∙◌, arith}
use Rattle.std.specs.Prelude.{All}
use Rattle.std.specs.List.{AllZip}
use Rattle.std.proofs.lemmas.List.{map-append, take_more}
use Rattle.std.proofs.lemmas.List.Elements.{All-nil, All-cons, All-append}
use Rattle.pq_model.specs.declared.message.Message.{Message}
use Rattle.pq_rewrite.specs.declared.outgoing.Outgoing.{Outgoing}
use Rattle.pq_rewrite.specs.declared.trees.Arrive.{Arrive}
use Rattle.pq_rewrite.specs.declared.trees.SwitchTrees.{SwitchTrees}
use Rattle.std.specs.declared.option.Option.{Option}
use Rattle.std.proofs.lemmas.Slice.Zip.{all_zipped_more}
use Rattle.pq_store.specs.Tree.{Tree}
use Rattle.pq_emit.specs.Switches.{IsFilledBy, TablesTrees, trees_at, trees_of}

-- the trees of the switch at a place
pub tree_here : (firsts : List (Tree (Option Arrive))) (seconds : List (Tree (List Outgoing))) (ts : List SwitchTrees) (k : ℕ)
    (t : SwitchTrees) → k < length ts → t ≡ get_or ts k t
    → trees_at firsts seconds t ≡ get_or (trees_of firsts seconds ts) k (trees_at firsts seconds t)
tree_here firsts seconds [] k t within at = absurd (omega (arith, within))
tree_here firsts seconds (u ∷ us) zero t within at = ap (trees_at firsts seconds) at
tree_here firsts seconds (u ∷ us) (suc k) t within at = tree_here firsts seconds us k t (omega (arith, within)) at

-- one switch more
pub one_filled : {V : Type 0} (items : V → List Message) (ts : List TablesTrees) (k : ℕ) (t : TablesTrees) (vs pushed : List V) (v : V)
    → k < length ts → t ≡ get_or ts k t → pushed ≡ vs ++ v ∷ [] → IsFilledBy t (items v) → AllZip IsFilledBy (take k ts) (map items vs)
    → AllZip IsFilledBy (take (k + 1) ts) (map items pushed)
one_filled items ts k t vs pushed v within at push one all =
    let front : take (k + 1) ts ≡ take k ts ++ t ∷ [] = take_more ts k t within ∙ ap (λ j. take k ts ++ j ∷ []) (sym at) in
    let back : map items pushed ≡ map items vs ++ items v ∷ [] = ap (map items) push ∙ map-append items vs (v ∷ []) in
    subst (λ us. AllZip IsFilledBy us (map items pushed)) (sym front) (subst (λ ms. AllZip IsFilledBy (take k ts ++ t ∷ []) ms) (sym back)
    (all_zipped_more IsFilledBy (take k ts) (map items vs) t (items v) all one))

-- the same of the lawful ones
pub one_lawful : {V : Type 0} (P : List Message → Type 0) (items : V → List Message) (vs pushed : List V) (v : V) → pushed ≡ vs ++ v ∷ []
    → P (items v) → All P (map items vs)
    → All P (map items pushed)
one_lawful P items vs pushed v push one all =
    subst (All P) (sym (ap (map items) push ∙ map-append items vs (v ∷ [])))
    (All-append P (map items vs) (items v ∷ []) all (All-cons P (items v) [] one (All-nil P)))
