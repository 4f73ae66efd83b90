-- A search of everything under a node finds the least packets of its leaves.
use Rattle.std.proofs.Common.{◌≡◌, ℕ, Bool, true, false, List, [], Some, inl, inr, get_or, replicate, refl, sym, ap, subst, ◌∙◌, true≢false, arith}
use Rattle.std.specs.Prelude.{slice_get}
use Rattle.std.specs.Option.{option_map}
use Rattle.std.proofs.lemmas.Bool.{cases_lt}
use Rattle.std.proofs.lemmas.List.{get_or-replicate, get_or_past, length-replicate}
use Rattle.std.proofs.lemmas.List.Elements.{All-nil, All-weaker}
use Rattle.pq_fields.specs.Packet.{Numbers, zero_packet}
use Rattle.pq_store.specs.declared.least.Least.{Least}
use Rattle.pq_store.specs.Tree.{Tree, value}
use Rattle.pq_store.specs.Tree.Tree.{Tip}
use Rattle.pq_store.specs.Store.{value_at}
use Rattle.pq_store.specs.Least.{precedes, Reaches, IsLeast, AreLeast}
use Rattle.pq_store.specs.Search.{Hits, IsLeastIn, IsSeen, IsSearched, Reaching, Visits}
use Rattle.pq_store.proofs.LeastFound.{any_weaker}
use Rattle.pq_store.proofs.PrefixNumbers.{none_before_zero}

-- at first no place is marked
pub none_marked : (seen : List Bool) (n : ℕ) → seen ≡ replicate n false → (j : ℕ) → get_or seen j false ≡ false
none_marked seen n is j = ap (λ s. get_or s j false) is ∙ elim (cases_lt j n) [
  | inl within ↦ get_or-replicate n j false false within
  | inr beyond ↦ get_or_past (replicate n false) j false (rw length-replicate beyond)
]

module _ {L : Type 0} where
  module _ (ts : List (Tree L)) (k : ℕ) (t : Tree L) (at : slice_get ts k ≡ Some t) where
    value_here : (x : Numbers) → value_at ts k x ≡ Some (value t x)
    value_here x = ap (λ o. option_map (λ t. value t x) o) at

    -- the packet reaches the leaf with this id
    reaches : (x : Numbers) (leaf : ℕ) → Hits ts t x leaf → Reaches ts k x leaf
    reaches x leaf hit = (value t x, value_here x, hit)

    -- and so says who reaches it
    hits : (x : Numbers) (leaf : ℕ) → Reaches ts k x leaf → Hits ts t x leaf
    hits x leaf h = h.2 ∙ ap (λ o. Some (Tip o)) (one_some (sym h.1 ∙ value_here x))
      where
        one_some : {a b : L} → Some a ≡ Some b → a ≡ b
        one_some h = cc

    -- what is least under the tree is least at the place
    least_of : (e : Least) → IsLeastIn ts t e → IsLeast ts k e
    least_of e h = record {
      fit = h.fit;
      reaches = reaches e.packet e.leaf h.hits;
      least = λ x fit r. h.least x fit (hits x e.leaf r);
    }

    -- from the first packet, with nothing marked and nothing found
    pub all_least : (old new : List Least) (before after : List Bool) (p : Numbers) → p ≡ zero_packet → old ≡ []
        → ((j : ℕ) → get_or before j false ≡ false) → ((t : Tree L) → slice_get ts k ≡ Some t → Visits ts t p old before new after)
        → AreLeast ts k new
    all_least old new before after p is_zero is_empty unmarked visit =
        let a : IsSearched ts t t (λ x. Reaching t x zero_packet) [] new after =
        subst (λ found. Visits ts t zero_packet found before new after) is_empty (subst (λ q. Visits ts t q old before new after) is_zero (visit t at)) t
        (record {
          each = All-nil (IsLeastIn ts t);
          ascending = λ i j d less within. absurd (omega arith);
          settled = λ j u seen is. absurd (true≢false (sym seen ∙ unmarked j));
          marked = All-nil (λ e. IsSeen before e.leaf);
        })
        (record { covered = λ x fit earlier. absurd (none_before_zero x earlier); behind = All-nil (λ e. precedes e.packet zero_packet ≡ true) })
        (λ x fit reach. refl) in
        record {
          each = All-weaker (IsLeastIn ts t) (IsLeast ts k) least_of new a.sound.each;
          whole = λ x fit. any_weaker (λ e. Hits ts t x e.leaf) (λ e. Reaches ts k x e.leaf) (λ e hit. reaches x e.leaf hit) new (a.all x fit);
          ascending = a.sound.ascending;
        }
