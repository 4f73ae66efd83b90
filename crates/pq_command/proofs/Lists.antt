-- The messages to a switch, by its place among the switches.
use Rattle.std.proofs.Common.{◌≡◌, ℕ, suc, ◌+◌, ◌<◌, Bool, true, false, not, ltb, List, [], ◌∷◌, All, length, map, get_or, position, refl}
use Rattle.std.proofs.Common.{subst, sym, ap, ◌∙◌, arith, Some, None}
use Rattle.std.specs.Prelude.{◌==◌}
use Rattle.std.specs.List.{list_any, prefix_len}
use Rattle.std.proofs.lemmas.Bool.{ltb-false, ltb-true}
use Rattle.std.proofs.lemmas.List.Sums.{prefix_len-le-length}
use Rattle.std.proofs.lemmas.List.{get_or-map, length-map}
use Rattle.std.proofs.lemmas.Option.{same_Some}
use Rattle.pq_model.specs.declared.message.Message.{Message}
use Rattle.pq_model.specs.Install.{Install, IsLawfulInstall, messages_in, messages_of}
use Rattle.pq_model.specs.Lawful.{IsLawfulMessage}
use Rattle.pq_model.specs.Topology.{Switch}
use Rattle.pq_command.specs.Speaks.{has_switch}

abbrev is_for : ℕ → Switch → Bool
is_for d s = s.datapath == d

abbrev other : ℕ → Switch → Bool
other d s = not (s.datapath == d)

-- a first place is that of the switch
here : (d : ℕ) (ss : List Switch) (lists : List (List Message)) → length lists ≡ length ss → prefix_len (other d) ss < length ss
    → (list_any (is_for d) ss ≡ true) × (messages_in ss lists d ≡ get_or lists (prefix_len (other d) ss) [])
here d [] lists same below = absurd (omega (arith, below))
here d (s ∷ ss) [] same below = absurd (omega (arith, same))
here d (s ∷ ss) (ms ∷ lists) same below = by (s.datapath == d) refl (here d ss lists (omega (arith, same)))
  where
    by : (w : Bool) → (s.datapath == d) ≡ w
        → (prefix_len (other d) ss < length ss → (list_any (is_for d) ss ≡ true) × (messages_in ss lists d ≡ get_or lists (prefix_len (other d) ss) []))
        → (list_any (is_for d) (s ∷ ss) ≡ true) × (messages_in (s ∷ ss) (ms ∷ lists) d ≡ get_or (ms ∷ lists) (prefix_len (other d) (s ∷ ss)) [])
    by true e later = (rw e refl, rw e refl)
    by false e later =
        let less : 1 + prefix_len (other d) ss < length (s ∷ ss) = rw e at below in
        let rest = later (omega (arith, less)) in
        let next : 1 + prefix_len (other d) ss ≡ suc (prefix_len (other d) ss) = omega arith in
        let at : get_or (ms ∷ lists) (1 + prefix_len (other d) ss) [] ≡ get_or lists (prefix_len (other d) ss) [] =
        ap (λ (k : ℕ). get_or (ms ∷ lists) k []) next in
        (rw e rest.0, rw e (rest.1 ∙ sym at))

-- no place, no switch
nowhere : (d : ℕ) (ss : List Switch) → prefix_len (other d) ss ≡ length ss → list_any (is_for d) ss ≡ false
nowhere d [] all = refl
nowhere d (s ∷ ss) all = by (s.datapath == d) refl (nowhere d ss)
  where
    by : (w : Bool) → (s.datapath == d) ≡ w → (prefix_len (other d) ss ≡ length ss → list_any (is_for d) ss ≡ false) → list_any (is_for d) (s ∷ ss) ≡ false
    by true e later = let none : 0 ≡ length (s ∷ ss) = rw e at all in absurd (omega (arith, none))
    by false e later =
        let less : 1 + prefix_len (other d) ss ≡ length (s ∷ ss) = rw e at all in
        rw e (later (omega (arith, less)))

pub listed : (d : ℕ) (ss : List Switch) (lists : List (List Message)) (k : ℕ) → length lists ≡ length ss → position (is_for d) ss ≡ Some k
    → (list_any (is_for d) ss ≡ true) × (messages_in ss lists d ≡ get_or lists k []) × (k < length ss)
listed d ss lists k same is = by (ltb (prefix_len (other d) ss) (length ss)) refl
  where
    by : (w : Bool) → ltb (prefix_len (other d) ss) (length ss) ≡ w
        → (list_any (is_for d) ss ≡ true) × (messages_in ss lists d ≡ get_or lists k []) × (k < length ss)
    by true e =
        let at : prefix_len (other d) ss ≡ k = same_Some _ _ (rw e at is) in
        let below = ltb-true (prefix_len (other d) ss) (length ss) e in
        let found = here d ss lists same below in
        (found.0, found.1 ∙ ap (λ (n : ℕ). get_or lists n []) at, omega (arith, at, below))
    by false e = let none : None ≡ Some k = rw e at is in cc

pub unlisted : (d : ℕ) (ss : List Switch) → position (is_for d) ss ≡ None → list_any (is_for d) ss ≡ false
unlisted d ss is = by (ltb (prefix_len (other d) ss) (length ss)) refl
  where
    by : (w : Bool) → ltb (prefix_len (other d) ss) (length ss) ≡ w → list_any (is_for d) ss ≡ false
    by true e = let some : Some (prefix_len (other d) ss) ≡ None = rw e at is in cc
    by false e = nowhere d ss (omega (arith, ltb-false (prefix_len (other d) ss) (length ss) e, prefix_len-le-length (other d) ss))

-- the list at the place of a switch has its messages
pub record IsListOf (d : ℕ) (i : Install) (ms : List Message) : Type 0 where
  pub named : has_switch d i ≡ true
  pub messages : ms ≡ messages_of i d
  pub lawful : All IsLawfulMessage ms

pub list-at : {V : Type 0} (view : V → List Message) (vs : List V) (i : Install) (d k : ℕ) (v : V) → IsLawfulInstall i → map view vs ≡ i.messages
    → position (is_for d) i.topology.switches ≡ Some k → v ≡ get_or vs k v → IsListOf d i (view v)
list-at view vs i d k v lawful same is read =
    let at = listed d i.topology.switches i.messages k lawful.listed is in
    let below : k < length vs = omega (arith, at.2, lawful.listed, ap length same, length-map vs view) in
    let there : get_or i.messages k [] ≡ view v =
    ap (λ (lists : List (List Message)). get_or lists k []) (sym same) ∙ get_or-map view vs k v [] below ∙ ap view (sym read) in
    record {
      named = at.0;
      messages = sym (at.1 ∙ there);
      lawful = subst (All IsLawfulMessage) there (lawful.messages k [] (omega (arith, at.2, lawful.listed))).1;
    }
