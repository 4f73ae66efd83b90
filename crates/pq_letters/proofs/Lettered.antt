-- The letters of what was found under a node, numbered by place.
use Rattle.std.proofs.Common.{ℕ, zero, suc, ◌<◌, ◌≡◌, ◌≢◌, ◌∙◌, Bool, List, [], ◌∷◌, Some, length, get_or, refl, sym, ap, subst, inl, inr, arith}
use Rattle.std.specs.Prelude.{slice_get}
use Rattle.std.specs.List.{AllPairs}
use Rattle.std.specs.Option.{option_map}
use Rattle.std.proofs.Math.ListN.{get_or-map}
use Rattle.std.proofs.lemmas.Bool.{true≢false, cases_order}
use Rattle.std.proofs.lemmas.List.{length-map}
use Rattle.std.proofs.lemmas.Option.{slice_get_within}
use Rattle.pq_fields.specs.Packet.{Numbers, Fit, zero_packet}
use Rattle.pq_store.specs.declared.least.Least.{Least}
use Rattle.pq_store.specs.declared.test.Test.TheVariants.{Equal}
use Rattle.pq_store.specs.Tree.{Tree, value, IsTested}
use Rattle.pq_store.specs.Tree.Tree.{Tip}
use Rattle.pq_store.specs.Least.{AreLeast, Reaches}
use Rattle.pq_letters.specs.Letters.{LettersValue, IsLeastOf, IsLettered, IsPartition, IsSigned, SignedAt, letter_at}
use Rattle.pq_letters.specs.Numbering.{AreLeaves, HaveSignatures, IsNumbered, NumbersAt, packets, place_in}
use Rattle.pq_letters.proofs.Places.{at_place, own_place}

-- there are as many signatures as leaves
as_many : (ts : List (Tree (List Bool))) (es : List Least) (ss : List (List Bool)) → HaveSignatures ts es ss → length ss ≡ length es
as_many ts [] [] have = refl
as_many ts [] (s ∷ ss) have = absurd have
as_many ts (e ∷ es) [] have = absurd have
as_many ts (e ∷ es) (s ∷ ss) have = omega (arith, as_many ts es ss have.1)

-- the signature at the place of a leaf is its own
signature_at : (ts : List (Tree (List Bool))) (es : List Least) (ss : List (List Bool)) → HaveSignatures ts es ss → (i : ℕ) (d : Least)
    → i < length es → slice_get ts (get_or es i d).leaf ≡ Some (Tip (get_or ss i []))
signature_at ts [] ss have i d within = absurd (omega arith)
signature_at ts (e ∷ es) [] have i d within = absurd have
signature_at ts (e ∷ es) (s ∷ ss) have zero d within = have.0
signature_at ts (e ∷ es) (s ∷ ss) have (suc i) d within = signature_at ts es ss have.1 i d (omega arith)

-- a packet with nothing found
abbrev nothing : Numbers → Least
nothing x = record { packet = x; leaf = 0 }

-- the packet of what was found at a place
packet_at : (found : List Least) (i : ℕ) (x : Numbers) → get_or (packets found) i x ≡ (get_or found i (nothing x)).packet
packet_at found i x = get_or-map (λ (e : Least). e.packet) found i (nothing x)

module _ (ts : List (Tree (List Bool))) (k : ℕ) (found : List Least) (least : AreLeast ts k found) where
  -- what was found are leaves
  pub found_leaves : AreLeaves ts found
  found_leaves i d within = let reaches = (least.each i d within).reaches in (reaches.0, reaches.2)

  -- two of them have different leaves
  tips_differ : (i j : ℕ) (d : Least) → i < j → j < length found → (s : List Bool) → slice_get ts (get_or found i d).leaf ≡ Some (Tip s)
      → slice_get ts (get_or found j d).leaf ≡ Some (Tip s) → ⊥
  tips_differ i j d less within s left right =
      let first = least.each i d (omega arith) in
      let same : first.reaches.0 ≡ s = let own = first.reaches.2 in cc in
      let reaches : Reaches ts k (get_or found i d).packet (get_or found j d).leaf = (s, first.reaches.1 ∙ ap Some same, right) in
      true≢false (sym (least.ascending i j d less within) ∙ (least.each j d within).least (get_or found i d).packet first.fit reaches)

  -- so their ids differ
  pub leaves_differ : AllPairs (λ d e. d.leaf ≢ e.leaf) found
  leaves_differ i j d less within same =
      let leaf = found_leaves i d (omega arith) in
      tips_differ i j d less within leaf.0 leaf.1 (ap (slice_get ts) (sym same) ∙ leaf.1)

  module _ (ss : List (List Bool)) (have : HaveSignatures ts found ss) where
    -- no signature is there twice
    signatures_differ : (i j : ℕ) → i < length ss → j < length ss → get_or ss i [] ≡ get_or ss j [] → i ≡ j
    signatures_differ i j in_i in_j same =
        let long = as_many ts found ss have in
        let d = nothing zero_packet in
        elim (cases_order i j) [
          | inl equal ↦ equal
          | inr (inl less) ↦ absurd (tips_differ i j d less (omega arith) (get_or ss j []) (signature_at ts found ss have i d (omega arith)
              ∙ ap (λ s. Some (Tip s)) same) (signature_at ts found ss have j d (omega arith)))
          | inr (inr less) ↦ absurd (tips_differ j i d less (omega arith) (get_or ss i []) (signature_at ts found ss have j d (omega arith)
              ∙ ap (λ s. Some (Tip s)) (sym same)) (signature_at ts found ss have i d (omega arith)))
        ]

    module _ (t : Tree (List Bool)) (at : slice_get ts k ≡ Some t) (rs : List (Tree ℕ)) (root : ℕ) (r : Tree ℕ)
        (root_at : slice_get rs root ≡ Some r) (numbered : IsNumbered ss t r) where
      -- the letters
      abbrev letters : LettersValue
      letters = record { trees = rs; root = root; signatures = ss; least = packets found }

      -- the letter of a packet is the place of its signature
      letter_is : (x : Numbers) → letter_at letters x ≡ Some (place_in ss (value t x))
      letter_is x = ap (option_map (λ u. value u x)) root_at ∙ ap Some (numbered.gives x)

      -- a packet that reaches the leaf at a place has this place's signature
      own_signature : (x : Numbers) (i : ℕ) (d : Least) → i < length found → Reaches ts k x (get_or found i d).leaf → value t x ≡ get_or ss i []
      own_signature x i d within (s, gives, tip) =
          let here = signature_at ts found ss have i d within in
          let given = ap (option_map (λ u. value u x)) at in
          cc

      -- so the place is its letter
      own_letter : (x : Numbers) (i : ℕ) (d : Least) → i < length found → Reaches ts k x (get_or found i d).leaf → letter_at letters x ≡ Some i
      own_letter x i d within reaches =
          letter_is x ∙ ap Some (ap (place_in ss) (own_signature x i d within reaches)
          ∙ own_place ss signatures_differ i (omega (arith, as_many ts found ss have)))

      -- a packet with this letter has the place's signature
      letter_signature : (x : Numbers) (letter : ℕ) → letter < length found → letter_at letters x ≡ Some letter → get_or ss letter [] ≡ value t x
      letter_signature x letter within has =
          let is : place_in ss (value t x) ≡ letter = let own = letter_is x in cc in
          subst (λ n. get_or ss n [] ≡ value t x) is (at_place ss (value t x) (omega (arith, is, as_many ts found ss have)))

      -- and reaches the place's leaf
      letter_reaches : (x : Numbers) (letter : ℕ) (d : Least) → letter < length found → letter_at letters x ≡ Some letter
          → Reaches ts k x (get_or found letter d).leaf
      letter_reaches x letter d within has = (
        value t x,
        ap (option_map (λ u. value u x)) at,
        signature_at ts found ss have letter d within
            ∙ ap (λ s. Some (Tip s)) (letter_signature x letter within has),
      )

      -- each packet has a letter
      whole : (x : Numbers) → Fit x → (letter : ℕ) × (letter < length found) × (letter_at letters x ≡ Some letter)
      whole x fit =
          let (i, e, within, e_at, reaches) = least.whole x fit in
          (i, within, own_letter x i e within (subst (λ (d : Least). Reaches ts k x d.leaf) (sym e_at) reaches))

      -- what was found at a place has the least packet of its letter
      least_at : (letter : ℕ) (d : Least) → letter < length found → IsLeastOf letters letter (get_or found letter d).packet
      least_at letter d within =
          let e = least.each letter d within in
          record {
            fit = e.fit;
            has = own_letter (get_or found letter d).packet letter d within e.reaches;
            least = λ y fit has. e.least y fit (letter_reaches y letter d within has);
          }

      -- the letters are lettered
      is_lettered : IsLettered letters
      is_lettered =
          let long = length-map found (λ (e : Least). e.packet) in
          record {
            root = slice_get_within rs root r root_at;
            signed = as_many ts found ss have ∙ sym long;
            whole = λ x fit. let (letter, within, has) = whole x fit in (letter, omega (arith, long, within), has);
            each = λ letter within. subst (IsLeastOf letters letter) (sym (packet_at found letter zero_packet))
                (least_at letter (nothing zero_packet) (omega (arith, long, within)));
            ascending = λ i j x less within. rw (packet_at found i x, packet_at found j x) (least.ascending i j (nothing x) less (omega (arith, long, within)));
            differ = λ i j in_i in_j. signatures_differ i j (omega (arith, long, in_i, as_many ts found ss have))
                (omega (arith, long, in_j, as_many ts found ss have));
          }

      -- they tell which trees are true of a packet
      is_partition : (us : List (Tree Bool)) → IsSigned us t → IsPartition us letters
      is_partition us signed = record {
        tells = λ x letter fit has.
            let (own, within, is) = whole x fit in
            let same : own ≡ letter = cc in
            letter_signature x letter (omega (arith, within, same)) has ∙ signed.gives x;
        tests = λ u u_is ns within f v tested.
            let same : u ≡ r = cc in
            signed.tests ns within f v (numbered.tests (Equal f v) (subst (IsTested (Equal f v)) same tested));
      }

-- the letters of what was found at a node, with the signatures and least packets at their places
pub found_lettered : (ts : List (Tree (List Bool))) (k : ℕ) (found : List Least) (us : List (Tree Bool)) (ss : List (List Bool))
    (rs : List (Tree ℕ)) (root : ℕ) (xs : List Numbers) → AreLeast ts k found → SignedAt us ts k → HaveSignatures ts found ss
    → NumbersAt ss ts k rs root → xs ≡ packets found → IsLettered (record { trees = rs; root = root; signatures = ss; least = xs })
found_lettered ts k found us ss rs root xs least (t, at, signed) have numbers are =
    let (r, root_at, numbered) = numbers t at in
    subst (λ ys. IsLettered (record { trees = rs; root = root; signatures = ss; least = ys })) (sym are)
    (is_lettered ts k found least ss have t at rs root r root_at numbered)

-- they are those of the trees
pub found_partition : (ts : List (Tree (List Bool))) (k : ℕ) (found : List Least) (us : List (Tree Bool)) (ss : List (List Bool))
    (rs : List (Tree ℕ)) (root : ℕ) (xs : List Numbers) → AreLeast ts k found → SignedAt us ts k → HaveSignatures ts found ss
    → NumbersAt ss ts k rs root → xs ≡ packets found → IsPartition us (record { trees = rs; root = root; signatures = ss; least = xs })
found_partition ts k found us ss rs root xs least (t, at, signed) have numbers are =
    let (r, root_at, numbered) = numbers t at in
    subst (λ ys. IsPartition us (record { trees = rs; root = root; signatures = ss; least = ys })) (sym are)
    (is_partition ts k found least ss have t at rs root r root_at numbered us signed)

-- the signed node is there
pub signed_there : (us : List (Tree Bool)) (ts : List (Tree (List Bool))) (k : ℕ) → SignedAt us ts k → k < length ts
signed_there us ts k (t, at, signed) = slice_get_within ts k t at
