-- The entry that a packet takes is that of the first rule whose match covers it.
use Rattle.std.proofs.Common.{◌≡◌, ◌≢◌, ℕ, suc, ◌+◌, ◌-◌, ◌<◌, ◌≤◌, Bool, true, false, if◌then◌else◌, List, [], ◌∷◌, ◌++◌, map, length}
use Rattle.std.proofs.Common.{Some, None, refl, ap, ◌∙◌, arith}
use Rattle.std.specs.Prelude.{◌==◌, ◌&&◌, nat_lt}
use Rattle.std.specs.Option.{option_map}
use Rattle.std.specs.declared.option.Option.{Option}
use Rattle.std.proofs.lemmas.Bool.{eq-eqb, ne_eqb, le-ltb}
use Rattle.std.proofs.lemmas.List.{map-append}
use Rattle.pq_model.specs.MatchFields.{MatchFields, covers}
use Rattle.pq_model.specs.SwitchMachine.{Entry, better, entry_of, taken}
use Rattle.pq_model.specs.Tagged.{TaggedPacket}
use Rattle.pq_layout.specs.Messages.{Rule, adds_from}
use Rattle.pq_lookup.specs.Lookup.{first_covering}

-- what an entry does
abbrev pub rule_of : Entry → Rule
rule_of e = record { matching = e.matching; actions = e.actions; goto = e.goto }

-- the taken entry, if any, has a priority below this one
abbrev IsBelow : ℕ → Option Entry → Type 0
IsBelow p None = Unit {0}
IsBelow p (Some e) = e.priority < p

-- the entry of a rule at its index in a table
abbrev pub entry_at : (table index : ℕ) → Rule → Entry
entry_at table index r = record { table = table; priority = 65535 - index; matching = r.matching; cookie = 0; actions = r.actions; goto = r.goto }

-- a table's entries as they are added
abbrev pub entries_from : (xid table index : ℕ) → List Rule → List Entry
entries_from xid table index rs = map entry_of (adds_from xid table index rs)

stays : (e : Entry) (o : Option Entry) → IsBelow e.priority o → better e o ≡ Some e
stays e None h = refl
stays e (Some f) h = ap (λ b. if b then Some f else Some e) (le-ltb e.priority f.priority (omega arith))

module _ (x : TaggedPacket) where
  -- the first rule whose match covers the packet
  abbrev pub found : List Rule → Option Rule
  found [] = None
  found (r ∷ rs) = if covers r.matching x then Some r else found rs

  -- entries of another table don't matter
  taken-other : (n xid table index : ℕ) (rs : List Rule) → table ≢ n → taken (entries_from xid table index rs) n x ≡ None
  taken-other n xid table index [] other = refl
  taken-other n xid table index (r ∷ rs) other =
      ap (λ b. if b && covers r.matching x then better (entry_at table index r)
      (taken (entries_from (suc xid) table (suc index) rs) n x) else taken (entries_from (suc xid) table (suc index) rs) n x)
      (ne_eqb table n other)
      ∙ taken-other n (suc xid) table (suc index) rs other

  taken-behind : (n : ℕ) (es fs : List Entry) → taken fs n x ≡ None → taken (es ++ fs) n x ≡ taken es n x
  taken-behind n [] fs none = none
  taken-behind n (e ∷ es) fs none = ap (λ o. if (e.table == n) && covers e.matching x then better e o else o) (taken-behind n es fs none)

  taken-before : (n xid table index : ℕ) (rs : List Rule) (fs : List Entry) → table ≢ n → taken (entries_from xid table index rs ++ fs) n x ≡ taken fs n x
  taken-before n xid table index [] fs other = refl
  taken-before n xid table index (r ∷ rs) fs other =
      ap (λ b. if b && covers r.matching x then better (entry_at table index r) (taken (entries_from (suc xid) table (suc index) rs ++ fs) n x)
      else taken (entries_from (suc xid) table (suc index) rs ++ fs) n x)
      (ne_eqb table n other)
      ∙ taken-before n (suc xid) table (suc index) rs fs other

  either_below : (b : Bool) (p : ℕ) (e : Entry) (o : Option Entry) → e.priority < p → IsBelow p o → IsBelow p (if b then better e o else o)
  either_below true p e None h k = h
  either_below true p e (Some f) h k = by (nat_lt e.priority f.priority)
    where
      by : (b : Bool) → IsBelow p (if b then Some f else Some e)
      by true = k
      by false = h
  either_below false p e o h k = k

  -- priorities descend
  taken-below : (p xid table index : ℕ) (rs : List Rule) → 65535 - index < p → IsBelow p (taken (entries_from xid table index rs) table x)
  taken-below p xid table index [] h = tt
  taken-below p xid table index (r ∷ rs) h =
      either_below ((table == table) && covers r.matching x) p _ (taken (entries_from (suc xid) table (suc index) rs) table x) h
      (taken-below p (suc xid) table (suc index) rs (omega arith))

  -- the taken entry of a table is that of the first covering rule
  taken-found : (xid table index : ℕ) (rs : List Rule) → index + length rs ≤ 65535
      → option_map rule_of (taken (entries_from xid table index rs) table x) ≡ found rs
  taken-found xid table index [] few = refl
  taken-found xid table index (r ∷ rs) few =
      ap (λ b. option_map rule_of (if b && covers r.matching x then better (entry_at table index r) rest else rest)) (eq-eqb table table refl)
      ∙ by (covers r.matching x) (taken-found (suc xid) table (suc index) rs (omega arith))
    where
      rest : Option Entry
      rest = taken (entries_from (suc xid) table (suc index) rs) table x

      by : (b : Bool) → option_map rule_of rest ≡ found rs → option_map rule_of (if b then better (entry_at table index r) rest else rest)
          ≡ (if b then Some r else found rs)
      by true more = ap (option_map rule_of) (stays (entry_at table index r) rest (taken-below (65535 - index) (suc xid) table (suc index) rs (omega arith)))
      by false more = more

  -- of two tables filled one after the other, either has its own
  module _ (xid yid : ℕ) (first second : List Rule) where
    abbrev pub both_tables : List Entry
    both_tables = map entry_of (adds_from xid 0 0 first ++ adds_from yid 1 0 second)

    parted : both_tables ≡ entries_from xid 0 0 first ++ entries_from yid 1 0 second
    parted = map-append entry_of (adds_from xid 0 0 first) (adds_from yid 1 0 second)

    pub first-found : length first ≤ 65535 → option_map rule_of (taken both_tables 0 x) ≡ found first
    first-found few =
        ap (λ es. option_map rule_of (taken es 0 x)) parted
        ∙ ap (option_map rule_of) (taken-behind 0 (entries_from xid 0 0 first) (entries_from yid 1 0 second) (taken-other 0 yid 1 0 second (omega arith)))
        ∙ taken-found xid 0 0 first (omega arith)

    pub second-found : length second ≤ 65535 → option_map rule_of (taken both_tables 1 x) ≡ found second
    second-found few =
        ap (λ es. option_map rule_of (taken es 1 x)) parted
        ∙ ap (option_map rule_of) (taken-before 1 xid 0 0 first (entries_from yid 1 0 second) (omega arith))
        ∙ taken-found yid 1 0 second (omega arith)

  -- rules that are made of matches and leaves
  pub found-map : {L : Type 0} (rule : MatchFields × L → Rule) → ((e : MatchFields × L) → (rule e).matching ≡ e.0) → (es : List (MatchFields × L)) →
      found (map rule es) ≡ option_map rule (first_covering x es)
  found-map rule own [] = refl
  found-map rule own (e ∷ es) =
      ap (λ m. if covers m x then Some (rule e) else found (map rule es)) (own e) ∙ by (covers e.0 x) (found-map rule own es)
    where
      by : (b : Bool) → found (map rule es) ≡ option_map rule (first_covering x es)
          → (if b then Some (rule e) else found (map rule es)) ≡ option_map rule (if b then Some e else first_covering x es)
      by true more = refl
      by false more = more
