-- The first match that covers a packet, among entries as they are found.
use Rattle.std.proofs.Common.{◌≡◌, ℕ, Bool, true, false, if◌then◌else◌, List, [], ◌∷◌, Some, refl, ap, subst, ◌∙◌}
use Rattle.std.specs.Prelude.{slice_get}
use Rattle.pq_model.specs.MatchFields.{MatchFields, covers}
use Rattle.pq_model.specs.Tagged.{TaggedPacket}
use Rattle.pq_store.specs.Tree.{Tree, value}
use Rattle.pq_store.specs.Tree.Tree.{Tip}
use Rattle.pq_layout.specs.Entries.{matches_below, vlan_match}
use Rattle.pq_layout.specs.Sound.{IsMatchable}
use Rattle.pq_lookup.specs.Lookup.{first_covering}
use Rattle.pq_lookup.proofs.Covering.{entries-answer}
use Rattle.pq_rules.specs.Found.{AreFound, FirstTells}

module _ {L : Type 0} (ts : List (Tree L)) (x : TaggedPacket) where
  -- what is found first has an id of the first leaf
  first_found : (ms : List (MatchFields × L)) (es : List (MatchFields × ℕ)) (m : MatchFields × L) → AreFound ts ms es → first_covering x ms ≡ Some m
      → (e : MatchFields × ℕ) × (first_covering x es ≡ Some e) × (slice_get ts e.1 ≡ Some (Tip m.1))
  first_found [] es m found first = absurd cc
  first_found (n ∷ ns) [] m found first = absurd found
  first_found (n ∷ ns) (e ∷ es) m found first = by (covers n.0 x) refl first (first_found ns es m found.1)
    where
      same : covers e.0 x ≡ covers n.0 x
      same = ap (λ k. covers k x) found.0.0

      by : (b : Bool) → covers n.0 x ≡ b → (if b then Some n else first_covering x ns) ≡ Some m →
          (first_covering x ns ≡ Some m → (d : MatchFields × ℕ) × (first_covering x es ≡ Some d) × (slice_get ts d.1 ≡ Some (Tip m.1)))
          → (d : MatchFields × ℕ) × (first_covering x (e ∷ es) ≡ Some d) × (slice_get ts d.1 ≡ Some (Tip m.1))
      by true is here below = (
        e,
        ap (λ b. if b then Some e else first_covering x es) (same ∙ is),
        let one : n ≡ m = cc in
            subst (λ p. slice_get ts e.1 ≡ Some (Tip p.1)) one found.0.1,
      )
      by false is later below = let rest = below later in (rest.0, ap (λ b. if b then Some e else first_covering x es) (same ∙ is) ∙ rest.1, rest.2)

module _ {L : Type 0} (ts : List (Tree L)) where
  pub first_tells : (t : Tree L) (word : ℕ) (es : List (MatchFields × ℕ)) → IsMatchable t
      → AreFound ts (matches_below (vlan_match word) t) es → FirstTells ts t word es
  first_tells t word es matchable found x same =
      let answer = entries-answer t word x matchable same in
      first_found ts x (matches_below (vlan_match word) t) es (answer.0, value t x.packet) found answer.1
