-- Writes without those that leave a packet as it is.
use Rattle.std.proofs.Common.{ℕ, ◌≡◌, ◌∙◌, Bool, true, false, not, List, [], ◌∷◌, Option, None, Some, ◌==◌, if◌then◌else◌, inl, inr, refl, sym, ap}
use Rattle.std.specs.Prelude.{◌&&◌, ◌||◌}
use Rattle.std.specs.List.{list_any}
use Rattle.std.specs.Option.{unwrap_or}
use Rattle.std.proofs.lemmas.Bool.{true≢false}
use Rattle.std.proofs.lemmas.Bool.Decides.{eqb_tells}
use Rattle.pq_apply.proofs.Choices.{one_of_same}
use Rattle.pq_fields.specs.declared.field.Field.{Field}
use Rattle.pq_fields.specs.declared.field.Field.TheVariants.{Switch, Port, EthType, IpProto, EthSrc, EthDst, Ipv4Src, Ipv4Dst, TcpSrc}
use Rattle.pq_fields.specs.declared.field.Field.TheVariants.{TcpDst, UdpSrc, UdpDst, Ipv6Src, Ipv6Dst}
use Rattle.pq_fields.specs.Packet.{Numbers, has_field, number_in, rank}
use Rattle.pq_fields.specs.Writes.{Written, AllFit, FitsWidth, is_writable, no_writes, on, with_write, written_in}
use Rattle.pq_store.proofs.Order.{rank_injective}
use Rattle.pq_rewrite.specs.Choices.{differs}
use Rattle.pq_rewrite.specs.Rewriting.{ChangesAll, IsGiven}
use Rattle.pq_rewrite.specs.Settled.{with_change, with_changes}
use Rattle.pq_rewrite.proofs.Diffs.{none_written}
use Rattle.pq_rewrite.proofs.Fields.{same_written, written_with}
use Rattle.pq_rewrite.proofs.Sets.{given_one, given_same}

-- the number to write into a field that the packet may have, where that changes it
abbrev pub change_of : Bool → ℕ → Option ℕ → Option ℕ
change_of has m None = None
change_of has m (Some n) = if has && not (m == n) then Some n else None

-- the writes that change the packet
abbrev pub changes : Written → Numbers → Written
changes w x = record {
  port = change_of true x.port w.port;
  eth_src = change_of true x.eth_src w.eth_src;
  eth_dst = change_of true x.eth_dst w.eth_dst;
  ipv4_src = change_of (has_field Ipv4Src x) x.ipv4_src w.ipv4_src;
  ipv4_dst = change_of (has_field Ipv4Dst x) x.ipv4_dst w.ipv4_dst;
  tcp_src = change_of (has_field TcpSrc x) x.tcp_src w.tcp_src;
  tcp_dst = change_of (has_field TcpDst x) x.tcp_dst w.tcp_dst;
  udp_src = change_of (has_field UdpSrc x) x.udp_src w.udp_src;
  udp_dst = change_of (has_field UdpDst x) x.udp_dst w.udp_dst;
}

-- the number for one field
abbrev pub change_in : Field → Written → Numbers → Option ℕ
change_in f w x = change_of (has_field f x) (number_in f x) (written_in f w)

-- the writes that change the packet have it there
pub changes_in : (f : Field) (w : Written) (x : Numbers) → written_in f (changes w x) ≡ change_in f w x
changes_in Switch w x = refl
changes_in Port w x = refl
changes_in EthType w x = refl
changes_in IpProto w x = refl
changes_in EthSrc w x = refl
changes_in EthDst w x = refl
changes_in Ipv4Src w x = refl
changes_in Ipv4Dst w x = refl
changes_in TcpSrc w x = refl
changes_in TcpDst w x = refl
changes_in UdpSrc w x = refl
changes_in UdpDst w x = refl
changes_in Ipv6Src w x = refl
changes_in Ipv6Dst w x = refl

-- where there is one, the packet has the field with another number
change_made : (has : Bool) (m : ℕ) (o : Option ℕ) (n : ℕ) → change_of has m o ≡ Some n → (has ≡ true) × (m ≡ n → ⊥)
change_made has m None n is = absurd cc
change_made false m (Some k) n is = absurd cc
change_made true m (Some k) n is = elim (eqb_tells m k) [
  | inl e ↦ absurd (none (m == k) e.0 is)
  | inr e ↦ (refl, λ same. e.1 (same ∙ sym (some (m == k) e.0 is)))
]
  where
    none : (b : Bool) → b ≡ true → (if not b then Some k else None) ≡ Some n → ⊥
    none true h is = cc
    none false h is = true≢false (sym h)

    some : (b : Bool) → b ≡ false → (if not b then Some k else None) ≡ Some n → k ≡ n
    some true h is = absurd (true≢false h)
    some false h is = cc

-- so the writes that change the packet do in each field
changes_all : (w : Written) (x : Numbers) → ChangesAll x (changes w x)
changes_all w x f n is = change_made (has_field f x) (number_in f x) (written_in f w) n (sym (changes_in f w x) ∙ is)

-- it fits where the number to write does
change_fits : (bits : ℕ) (has : Bool) (m : ℕ) (o : Option ℕ) → FitsWidth bits o → FitsWidth bits (change_of has m o)
change_fits bits has m None fits = tt
change_fits bits has m (Some n) fits = by (has && not (m == n))
  where
    by : (b : Bool) → FitsWidth bits (if b then Some n else None)
    by true = fits
    by false = tt

-- so all of them do
changes_fit : (w : Written) (x : Numbers) → AllFit w → AllFit (changes w x)
changes_fit w x fits = record {
  port = change_fits 32 true x.port w.port fits.port;
  eth_src = change_fits 48 true x.eth_src w.eth_src fits.eth_src;
  eth_dst = change_fits 48 true x.eth_dst w.eth_dst fits.eth_dst;
  ipv4_src = change_fits 32 (has_field Ipv4Src x) x.ipv4_src w.ipv4_src fits.ipv4_src;
  ipv4_dst = change_fits 32 (has_field Ipv4Dst x) x.ipv4_dst w.ipv4_dst fits.ipv4_dst;
  tcp_src = change_fits 16 (has_field TcpSrc x) x.tcp_src w.tcp_src fits.tcp_src;
  tcp_dst = change_fits 16 (has_field TcpDst x) x.tcp_dst w.tcp_dst fits.tcp_dst;
  udp_src = change_fits 16 (has_field UdpSrc x) x.udp_src w.udp_src fits.udp_src;
  udp_dst = change_fits 16 (has_field UdpDst x) x.udp_dst w.udp_dst fits.udp_dst;
}

-- the field has after the change what it has after the write
change_gives : (has : Bool) (m : ℕ) (o : Option ℕ) → (if has then unwrap_or (change_of has m o) m else m) ≡ (if has then unwrap_or o m else m)
change_gives has m None = refl
change_gives false m (Some n) = refl
change_gives true m (Some n) = elim (eqb_tells m n) [ inl e ↦ rw e.0 e.1 | inr e ↦ rw e.0 refl ]

-- so the writes that change the packet give what all of them give
changes_give : (w : Written) (x : Numbers) → on (changes w x) x ≡ on w x
changes_give w x = λ i. record x {
  port = change_gives true x.port w.port i;
  eth_src = change_gives true x.eth_src w.eth_src i;
  eth_dst = change_gives true x.eth_dst w.eth_dst i;
  ipv4_src = change_gives (has_field Ipv4Src x) x.ipv4_src w.ipv4_src i;
  ipv4_dst = change_gives (has_field Ipv4Dst x) x.ipv4_dst w.ipv4_dst i;
  tcp_src = change_gives (has_field TcpSrc x) x.tcp_src w.tcp_src i;
  tcp_dst = change_gives (has_field TcpDst x) x.tcp_dst w.tcp_dst i;
  udp_src = change_gives (has_field UdpSrc x) x.udp_src w.udp_src i;
  udp_dst = change_gives (has_field UdpDst x) x.udp_dst w.udp_dst i;
}

-- so they alone are the list for the packet written
pub changes_given : (w : Written) (x : Numbers) → AllFit w → IsGiven x (λ y. y ≡ on w x) (changes w x ∷ [])
changes_given w x fits =
    let same = changes_give w x in
    given_same x (λ y. y ≡ on (changes w x) x) (λ y. y ≡ on w x) (changes w x ∷ []) (λ y. (λ is. is ∙ same, λ is. is ∙ sym same))
    (given_one x (changes w x) (changes_fit w x fits) (changes_all w x))

-- a number to write in place of another, where there is one
abbrev pub in_place : Option ℕ → Option ℕ → Option ℕ
in_place o None = o
in_place o (Some n) = Some n

-- a second time it is the same
in_place_twice : (o c : Option ℕ) → in_place (in_place o c) c ≡ in_place o c
in_place_twice o None = refl
in_place_twice o (Some n) = refl

-- after a step for its own rank a field has the change of that step, and after others it one_of_same
step_in : (f g : Field) (o : Option ℕ) (x : Numbers) (done : Written) → is_writable g ≡ true
    → written_in g (with_change f o x done)
    ≡ (if rank f == rank g then in_place (written_in g done) (change_of (has_field f x) (number_in f x) o) else written_in g done)
step_in f g None x done writable = one_of_same (rank f == rank g) (written_in g done)
step_in f g (Some n) x done writable = by (differs f n x)
  where
    by : (b : Bool) → written_in g (if b then with_write f n done else done)
        ≡ (if rank f == rank g then in_place (written_in g done) (if b then Some n else None) else written_in g done)
    by true = written_with f g n done writable
    by false = one_of_same (rank f == rank g) (written_in g done)

-- after the step with what the writes have for its own field a field has its own change
step_own : (f g : Field) (w : Written) (x : Numbers) (done : Written) → is_writable g ≡ true
    → written_in g (with_change f (written_in f w) x done) ≡ (if rank f == rank g then in_place (written_in g done) (change_in g w x) else written_in g done)
step_own f g w x done writable = step_in f g (written_in f w) x done writable ∙ elim (eqb_tells (rank f) (rank g)) [
  | inl e ↦ ap (λ h. if rank f == rank g then in_place (written_in g done) (change_in h w x) else written_in g done) (rank_injective f g e.1)
  | inr e ↦ rw e.0 refl
]

-- the field is one of these
abbrev pub is_among : Field → List Field → Bool
is_among g fs = list_any (λ f. rank f == rank g) fs

-- after the steps for some fields each of them has its change, and others stay
pub steps_in : (fs : List Field) (g : Field) (w : Written) (x : Numbers) (done : Written) → is_writable g ≡ true
    → written_in g (with_changes fs w x done) ≡ (if is_among g fs then in_place (written_in g done) (change_in g w x) else written_in g done)
steps_in [] g w x done writable = refl
steps_in (f ∷ fs) g w x done writable =
    steps_in fs g w x (with_change f (written_in f w) x done) writable
    ∙ (ap (λ o. if is_among g fs then in_place o (change_in g w x) else o) (step_own f g w x done writable) ∙ by (rank f == rank g) (is_among g fs))
  where
    by : (here later : Bool)
        → (if later then in_place (if here then in_place (written_in g done) (change_in g w x) else written_in g done)
        (change_in g w x) else (if here then in_place (written_in g done) (change_in g w x) else written_in g done))
        ≡ (if here || later then in_place (written_in g done) (change_in g w x) else written_in g done)
    by true true = in_place_twice (written_in g done) (change_in g w x)
    by true false = refl
    by false true = refl
    by false false = refl

-- in place of nothing a change is itself
pub in_place_none : (o c : Option ℕ) → o ≡ None → in_place o c ≡ c
in_place_none o None none = none
in_place_none o (Some n) none = refl

-- after the steps for all fields that can be written, from nothing, just the changes are to be written
pub steps_change : (fs : List Field) (w : Written) (x : Numbers) → ((g : Field) → is_writable g ≡ true → is_among g fs ≡ true)
    → with_changes fs w x no_writes ≡ changes w x
steps_change fs w x all = same_written (with_changes fs w x no_writes) (changes w x) (λ g writable.
    steps_in fs g w x no_writes writable
    ∙ (ap (λ b. if b then in_place (written_in g no_writes) (change_in g w x) else written_in g no_writes) (all g writable)
    ∙ (in_place_none (written_in g no_writes) (change_in g w x) (none_written g) ∙ sym (changes_in g w x))))
