-- The first match of a table's entries that covers a packet has what the tree with its VLAN_VID word says.
use Rattle.std.proofs.Common.{◌≡◌, ◌≢◌, ◌⊎◌, inl, inr, ℕ, Bool, true, false, if◌then◌else◌, List, [], ◌∷◌, ◌++◌, map, nat_eq, Some, None, refl, sym, ap, ◌∙◌}
use Rattle.std.specs.Prelude.{◌==◌}
use Rattle.std.specs.List.{AllByRecursion, IsDistinct}
use Rattle.std.proofs.lemmas.Bool.{eqb-true, eqb-false, false≢true}
use Rattle.pq_fields.specs.Packet.{Numbers}
use Rattle.pq_model.specs.MatchFields.{MatchFields, vlan_word}
use Rattle.pq_model.specs.Tagged.{TaggedPacket}
use Rattle.pq_store.specs.Tree.{Tree, value}
use Rattle.pq_store.specs.Tree.Tree.{Tip, Fork}
use Rattle.pq_layout.specs.Entries.{is_blank, entries_of, matches_below, table_of, vlan_match}
use Rattle.pq_layout.specs.Sending.{said_by}
use Rattle.pq_layout.specs.Sound.{IsMatchable}
use Rattle.pq_lookup.specs.Lookup.{first_covering, Answers}
use Rattle.pq_lookup.proofs.Covering.{entries-answer, entries-pass_over, first-some, first-none}

module _ {L : Type 0} (blank : L → Bool) where
  -- a tree that is one blank leaf says it of every packet
  blank-says : (t : Tree L) (x : Numbers) → is_blank blank t ≡ true → blank (value t x) ≡ true
  blank-says (Tip l) x h = h
  blank-says (Fork s y n) x h = absurd (false≢true h)

  module _ (x : TaggedPacket) where
    -- either no match covers the packet, and what is said is blank, or the first that covers it has what is said
    abbrev pub IsTold : List (MatchFields × L) → L → Type 0
    IsTold es l = (first_covering x es ≡ None) × (blank l ≡ true) ⊎ Answers x es (vlan_word x.vlan) l

    -- the entries of a tree with another word
    others-none : (p : ℕ × Tree L) → IsMatchable p.1 → p.0 ≢ vlan_word x.vlan → first_covering x (entries_of blank p) ≡ None
    others-none p h other = by (is_blank blank p.1)
      where
        by : (b : Bool) → first_covering x (if b then [] else matches_below (vlan_match p.0) p.1) ≡ None
        by true = refl
        by false = entries-pass_over p.1 p.0 x h (λ e. other (sym e))

    none-tells : (ps : List (ℕ × Tree L)) → AllByRecursion (λ p. IsMatchable p.1) ps → AllByRecursion (λ p. p.0 ≢ vlan_word x.vlan) ps
        → first_covering x (table_of blank ps) ≡ None
    none-tells [] all other = refl
    none-tells (p ∷ ps) (h, all) (here, other) = first-none x (entries_of blank p) (table_of blank ps) (others-none p h here) ∙ none-tells ps all other

    -- those with its word, where no tree after has it
    own-tells : (p : ℕ × Tree L) (fs : List (MatchFields × L)) → IsMatchable p.1 → p.0 ≡ vlan_word x.vlan → first_covering x fs ≡ None
        → IsTold (entries_of blank p ++ fs) (value p.1 x.packet)
    own-tells p fs h own none = by (is_blank blank p.1) refl
      where
        by : (b : Bool) → is_blank blank p.1 ≡ b → IsTold ((if b then [] else matches_below (vlan_match p.0) p.1) ++ fs) (value p.1 x.packet)
        by true c = inl (none, blank-says p.1 x.packet c)
        by false c =
            let told = entries-answer p.1 p.0 x h (sym own) in
            inr (told.0, first-some x (matches_below (vlan_match p.0) p.1) fs (told.0, value p.1 x.packet) told.1, told.2 ∙ ap (λ w. Some w) own)

    behind-tells : (es fs : List (MatchFields × L)) (l : L) → first_covering x es ≡ None → IsTold fs l → IsTold (es ++ fs) l
    behind-tells es fs l none (inl told) = inl (first-none x es fs none ∙ told.0, told.1)
    behind-tells es fs l none (inr told) = inr (told.0, first-none x es fs none ∙ told.1, told.2)

    apart : (word : ℕ) (ps : List (ℕ × Tree L)) → AllByRecursion (λ w. nat_eq word w ≡ false) (map (λ p. p.0) ps) → word ≡ vlan_word x.vlan
        → AllByRecursion (λ p. p.0 ≢ vlan_word x.vlan) ps
    apart word [] all own = tt
    apart word (p ∷ ps) (here, all) own = ((λ e. eqb-false word p.0 here (own ∙ sym e)), apart word ps all own)

    pub table-tells : (default : L) → blank default ≡ true → (ps : List (ℕ × Tree L)) → IsDistinct nat_eq (map (λ p. p.0) ps)
        → AllByRecursion (λ p. IsMatchable p.1) ps →
        IsTold (table_of blank ps) (said_by ps default (vlan_word x.vlan) x.packet)
    unfolding IsDistinct
    table-tells default empty [] distinct all = inl (refl, empty)
    table-tells default empty (p ∷ ps) (first, distinct) (h, all) = by (p.0 == vlan_word x.vlan) refl (table-tells default empty ps distinct all)
      where
        by : (b : Bool) → (p.0 == vlan_word x.vlan) ≡ b → IsTold (table_of blank ps) (said_by ps default (vlan_word x.vlan) x.packet) →
            IsTold (entries_of blank p ++ table_of blank ps) (if b then value p.1 x.packet else said_by ps default (vlan_word x.vlan) x.packet)
        by true c more = let own = eqb-true p.0 (vlan_word x.vlan) c in own-tells p (table_of blank ps) h own (none-tells ps all (apart p.0 ps first own))
        by false c more = behind-tells (entries_of blank p) (table_of blank ps) _ (others-none p h (eqb-false p.0 (vlan_word x.vlan) c)) more
