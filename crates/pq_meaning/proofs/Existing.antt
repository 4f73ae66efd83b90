-- What is laid out for a document is laid out for a meaning of it.
use Rattle.std.proofs.Common.{◌≡◌, ◌∙◌, ◌==◌, ℕ, Bool, true, false, None, Some, Option, if◌then◌else◌, List, [], ◌∷◌, inl, inr, refl, sym, ap, subst, arith}
use Rattle.std.specs.Prelude.{◌⊎◌, ◌↔◌, ◌&&◌, bytes_eq, slice_get}
use Rattle.std.specs.List.{list_any}
use Rattle.std.proofs.lemmas.Bool.{and_from, and_parts, eqb-true, true≢false}
use Rattle.std.proofs.lemmas.Bool.Decides.{nat_tests}
use Rattle.std.proofs.lemmas.List.Elements.{All-from_recursion}
use Rattle.std.proofs.lemmas.List.Folds.{Any-from_list_any, list_any-from_Any}
use Rattle.std.proofs.lemmas.Slice.Eq.{bytes_eq-Decides}
use Rattle.pq_fields.specs.Packet.{Numbers, is_before, numbers}
use Rattle.pq_fields.specs.Writes.{Written, on}
use Rattle.pq_fields.proofs.Tellings.{numbers_tell}
use Rattle.pq_model.specs.Buckets.{Instance}
use Rattle.pq_model.specs.Classes.{IsPath}
use Rattle.pq_model.specs.Install.{AscendsBy}
use Rattle.pq_model.specs.Meaning.{Meaning}
use Rattle.pq_model.specs.Topology.{Topology}
use Rattle.pq_model.specs.Word.{Word}
use Rattle.pq_model.proofs.NumberLists.{same_list}
use Rattle.pq_model.proofs.Ascending.{rest_ascends}
use Rattle.pq_policy.specs.Policy.{IsInPacketOrder, IsListOf, PolicyTree}
use Rattle.pq_query.specs.Instances.{instances_of}
use Rattle.pq_query.specs.Language.{lang}
use Rattle.pq_query.specs.Query.{QueryTree}
use Rattle.pq_rewrite.specs.Rewriting.{IsGiven, IsWrittenBy}
use Rattle.pq_rewrite.proofs.Sets.{any_cases, any_first, any_none, any_later}
use Rattle.pq_layout.specs.Leaves.{Departures}
use Rattle.pq_layout.specs.Tagging.{Tagging, tag_of}
use Rattle.pq_headline.proofs.Keys.{first_ahead}
use Rattle.pq_headline.proofs.Members.{StandsIn, among_from_contains, contains_from_among}
use Rattle.pq_meaning.specs.Compiled.{IsLaid}
use Rattle.pq_meaning.specs.Meaning.{IsMeaning, departs}

-- Packets in order.

-- the packet among others in order, where it isn't there yet
abbrev put : Numbers → List Numbers → List Numbers
put x [] = x ∷ []
put x (y ∷ ys) = if is_before (numbers x) (numbers y) then x ∷ y ∷ ys else if is_before (numbers y) (numbers x) then y ∷ put x ys else y ∷ ys

put_behind : (z x : Numbers) (ys : List Numbers) → is_before (numbers z) (numbers x) ≡ true → AscendsBy numbers (z ∷ ys) → AscendsBy numbers (z ∷ put x ys)
put_behind z x [] less up = (less, tt)
put_behind z x (y ∷ ys) less up = by (is_before (numbers x) (numbers y)) (is_before (numbers y) (numbers x)) refl refl (λ before. put_behind y x ys before up.1)
  where
    by : (b c : Bool) → is_before (numbers x) (numbers y) ≡ b → is_before (numbers y) (numbers x) ≡ c
        → (is_before (numbers y) (numbers x) ≡ true → AscendsBy numbers (y ∷ put x ys))
        → AscendsBy numbers (z ∷ (if b then x ∷ y ∷ ys else if c then y ∷ put x ys else y ∷ ys))
    by true c first back rest = (less, (first, up.1))
    by false true first back rest = (up.0, rest back)
    by false false first back rest = up

put_ascends : (x : Numbers) (ys : List Numbers) → AscendsBy numbers ys → AscendsBy numbers (put x ys)
put_ascends x [] up = tt
put_ascends x (y ∷ ys) up = by (is_before (numbers x) (numbers y)) (is_before (numbers y) (numbers x)) refl refl
  where
    by : (b c : Bool) → is_before (numbers x) (numbers y) ≡ b → is_before (numbers y) (numbers x) ≡ c
        → AscendsBy numbers (if b then x ∷ y ∷ ys else if c then y ∷ put x ys else y ∷ ys)
    by true c first back = (first, up)
    by false true first back = put_behind y x ys back up
    by false false first back = up

in_put : (x z : Numbers) (ys : List Numbers) → StandsIn z (put x ys) → (z ≡ x) ⊎ StandsIn z ys
in_put x z [] (inl is) = inl is
in_put x z [] (inr never) = absurd never
in_put x z (y ∷ ys) there = by (is_before (numbers x) (numbers y)) (is_before (numbers y) (numbers x)) there (in_put x z ys)
  where
    by : (b c : Bool) → StandsIn z (if b then x ∷ y ∷ ys else if c then y ∷ put x ys else y ∷ ys)
        → (StandsIn z (put x ys) → (z ≡ x) ⊎ StandsIn z ys) → (z ≡ x) ⊎ StandsIn z (y ∷ ys)
    by true c there rest = there
    by false true (inl is) rest = inr (inl is)
    by false true (inr later) rest = elim (rest later) [ inl is ↦ inl is | inr old ↦ inr (inr old) ]
    by false false there rest = inr there

put_in : (x z : Numbers) (ys : List Numbers) → (z ≡ x) ⊎ StandsIn z ys → StandsIn z (put x ys)
put_in x z [] here = here
put_in x z (y ∷ ys) here = by (is_before (numbers x) (numbers y)) (is_before (numbers y) (numbers x)) refl refl here (put_in x z ys)
  where
    by : (b c : Bool) → is_before (numbers x) (numbers y) ≡ b → is_before (numbers y) (numbers x) ≡ c → (z ≡ x) ⊎ StandsIn z (y ∷ ys)
        → ((z ≡ x) ⊎ StandsIn z ys → StandsIn z (put x ys))
        → StandsIn z (if b then x ∷ y ∷ ys else if c then y ∷ put x ys else y ∷ ys)
    by true c first back here rest = here
    by false true first back (inl is) rest = inr (rest (inl is))
    by false true first back (inr (inl is)) rest = inl is
    by false true first back (inr (inr later)) rest = inr (rest (inr later))
    by false false first back (inl is) rest = inl (is ∙ numbers_tell x y (same_list (numbers x) (numbers y) first back))
    by false false first back (inr old) rest = old

-- what writes give, in order
abbrev given_in_order : Numbers → List Written → List Numbers
given_in_order x [] = []
given_in_order x (w ∷ ws) = put (on w x) (given_in_order x ws)

given_ascends : (x : Numbers) (ws : List Written) → AscendsBy numbers (given_in_order x ws)
given_ascends x [] = tt
given_ascends x (w ∷ ws) = put_ascends (on w x) (given_in_order x ws) (given_ascends x ws)

in_given : (x z : Numbers) (ws : List Written) → StandsIn z (given_in_order x ws) → IsWrittenBy x ws z
in_given x z [] never = absurd never
in_given x z (w ∷ ws) there = elim (in_put (on w x) z (given_in_order x ws) there) [
  | inl is ↦ any_first (λ v. z ≡ on v x) w ws is
  | inr later ↦ any_later (λ v. z ≡ on v x) w ws (in_given x z ws later)
]

given_in : (x z : Numbers) (ws : List Written) → IsWrittenBy x ws z → StandsIn z (given_in_order x ws)
given_in x z [] some = any_none (λ v. z ≡ on v x) some
given_in x z (w ∷ ws) some =
    put_in (on w x) z (given_in_order x ws)
    (elim (any_cases (λ v. z ≡ on v x) w ws some) [ inl is ↦ inl is | inr later ↦ inr (given_in x z ws later) ])

in_packet_order : (xs : List Numbers) → AscendsBy numbers xs → IsInPacketOrder xs
in_packet_order [] up = tt
in_packet_order (x ∷ xs) up = (
  All-from_recursion (λ y. is_before (numbers x) (numbers y) ≡ true) xs (first_ahead numbers x xs up),
  in_packet_order xs (rest_ascends numbers x xs up),
)

given_list : (x : Numbers) (P : Numbers → Type 0) (ws : List Written) → IsGiven x P ws → IsListOf P (given_in_order x ws)
given_list x P ws given = record {
  ordered = in_packet_order (given_in_order x ws) (given_ascends x ws);
  exact = λ y. (
    λ there. (given.gives y).0 (in_given x y ws (among_from_contains (given_in_order x ws) y there)),
    λ p. contains_from_among (given_in_order x ws) y (given_in x y ws ((given.gives y).1 p)),
  );
}

-- Words that instances accept.

-- the instance is there
abbrev is_instance : Instance → Option Instance → Bool
is_instance inst None = false
is_instance inst (Some j) = (j.query == inst.query) && bytes_eq j.label inst.label

is_there : (inst : Instance) (o : Option Instance) → is_instance inst o ≡ true → o ≡ Some inst
is_there inst None is = absurd (true≢false (sym is))
is_there inst (Some j) is =
    let parts = and_parts (j.query == inst.query) (bytes_eq j.label inst.label) is in
    let query = eqb-true j.query inst.query parts.0 in
    let label = (bytes_eq-Decides j.label inst.label).0 parts.1 in
    ap Some (λ i. record { query = query i; label = label i })

itself : (inst : Instance) → is_instance inst (Some inst) ≡ true
itself inst =
    let query : (inst.query == inst.query) ≡ true = grind (arith, nat_tests) in
    and_from (inst.query == inst.query) (bytes_eq inst.label inst.label) query ((bytes_eq-Decides inst.label inst.label).1 refl)

module _ (T : Topology) (ps : List PolicyTree) (qs : List QueryTree) (g : Tagging) (writes : Departures) (laid : IsLaid T ps qs g writes) where
  abbrev all : List Instance
  all = instances_of T qs

  -- one of those that hold the tag's words is this instance
  abbrev accepts_word : Instance → Word → Bool
  accepts_word inst w = list_any (λ i. is_instance inst (slice_get all i)) (g.accepted (tag_of g w))

  accepts_exactly : (i : ℕ) (inst : Instance) → slice_get all i ≡ Some inst → (q : QueryTree) → slice_get qs inst.query ≡ Some q
      → (w : Word) → IsPath w → (accepts_word inst w ≡ true) ↔ lang q inst.label w
  accepts_exactly i inst at q asked w path = (into, out)
    where
      tags : List ℕ
      tags = g.accepted (tag_of g w)

      into : accepts_word inst w ≡ true → lang q inst.label w
      into accepted =
          let some = Any-from_list_any (λ i. is_instance inst (slice_get all i)) (g.accepted (tag_of g w)) accepted in
          let held = ((laid.tagging.tagged w path).held some.1).0 (some.0, some.2, some.3) in
          let there = held.at in
          let here = is_there inst (slice_get all some.1) some.4 in
          let same : held.instance ≡ inst = cc in
          let own : slice_get qs inst.query ≡ Some held.query = subst (λ j. slice_get qs j.query ≡ Some held.query) same held.asked in
          let query : held.query ≡ q = cc in
          subst (λ r. lang r inst.label w) query (subst (λ j. lang held.query j.label w) same held.holds)

      out : lang q inst.label w → accepts_word inst w ≡ true
      out holds =
          let held = ((laid.tagging.tagged w path).held i).1 (record { instance = inst; at = at; query = q; asked = asked; holds = holds }) in
          list_any-from_Any (λ i. is_instance inst (slice_get all i)) (g.accepted (tag_of g w)) (
            held.0,
            i,
            held.1,
            held.2,
            (ap (is_instance inst) at ∙ itself inst),
          )

  -- a meaning of the document
  pub meaning_of : Meaning
  meaning_of = record { topology = T; departs = λ x. given_in_order x (writes x); instances = all; accepts = accepts_word }

  pub means : IsMeaning T ps qs meaning_of
  unfolding meaning_of
  means = record {
    topology = refl;
    departures = λ x fit. given_list x (departs T ps x) (writes x) (laid.departures x fit);
    instances = refl;
    accepts = accepts_exactly;
  }

  pub meaning_exists : (m : Meaning) × IsMeaning T ps qs m
  meaning_exists = (meaning_of, means)
