-- Keys of entries: read one after the other, and searched.
use mathlib.Core.Path.{◌≡◌, refl, ap, ap₂, sym, ◌∙◌}
use mathlib.Core.Bool.{Bool, true, false}
use mathlib.Core.List.{List, ◌∷◌}
use Prim.Native.Nat.{ℕ, zero, suc, ◌+◌, ◌-◌, ◌*◌, ◌%◌, ◌≤◌, ◌<◌, min}
use native.Mathlib.Decide.{dec_le}
use native.Mathlib.Nat.{mul-le-mul_left}
use native.Mathlib.Omega.{arith}
use lib.Dec.{ltb, eqb}
use lib.ListN.{length, take, drop}
use lib.Seq.{drop-drop, take-take, get_or-take, take-add}
use borrow.Author.Tests.{lt-ltb, le-ltb, ltb-true, ltb-false, eqb-true, eqb-false, ne_eqb}
use Rattle.geometry.specs.declared.Geometry.{Geometry}
use Rattle.geometry.specs.Geometry.{entry_size, Valid}
use Rattle.geometry.specs.ListLaws.{drop_of_take}
use Rattle.geometry.specs.Number.{number}
use Rattle.rules.specs.PageSets.{hit, count, mem}
use Rattle.rules.proofs.PageSetLaws.{hits, same, other, hit_same, count_append, mem_true}
use Rattle.rules.specs.declared.Entry.{Entry}
use Rattle.rules.specs.Names.{key, extended}
use Rattle.entries.specs.EntrySlots.{PlainKey, entry_key, keys_from}

-- an extended entry does not have the key of a plain one
pub extended_key : (e : Entry) (k : ℕ) → extended e ≡ true → PlainKey k → eqb (key e.name e.extension) k ≡ false
unfolding extended
extended_key e k x h = ne_eqb (key e.name e.extension) k (λ q. omega (arith, ltb-true 127 (e.name % 256) x))

pub plain_key : (e : Entry) (k : ℕ) → extended e ≡ false → k ≡ key e.name e.extension → PlainKey k
unfolding extended
plain_key e k x q = omega (arith, ltb-false 127 (e.name % 256) x)

pub length_keys : (g : Geometry) (m : ℕ) (b : List ℕ) → length (keys_from g m b) ≡ m
length_keys g zero b = refl
length_keys g (suc m) b = ap suc (length_keys g m (drop (entry_size g) b))

-- the keys of a part are those of the whole, as far as it goes
pub keys_cut : (g : Geometry) → 7 ≤ entry_size g → (m s : ℕ) (l : List ℕ) → entry_size g * m ≤ s → keys_from g m (take s l) ≡ keys_from g m l
keys_cut g h zero s l k = refl
keys_cut g h (suc m) s l k =
    let j : entry_size g ≤ s = omega arith in
    ap₂ (λ (x : ℕ) (xs : List ℕ). x ∷ xs)
    (ap₂ (λ (x : List ℕ) (y : ℕ). key (number x) y) (take-take 4 s l (omega arith)) (get_or-take s l 4 0 (omega arith)))
    (ap (keys_from g m) (drop_of_take (entry_size g) s l j) ∙ keys_cut g h m (s - entry_size g) (drop (entry_size g) l) (omega arith))

-- ---- a search from entry i on
module _ (g : Geometry) (page : List ℕ) (k m i at : ℕ) (h : i < m) (r : Bool) (f : r ≡ eqb (entry_key (drop at page)) k) where
  abbrev y : ℕ
  y = entry_key (drop at page)

  one : keys_from g (m - i) (drop at page) ≡ y ∷ keys_from g (m - (i + 1)) (drop (at + entry_size g) page)
  one =
      let s : m - i ≡ suc (m - (i + 1)) = omega arith in
      ap (λ (j : ℕ). keys_from g j (drop at page)) s
      ∙ ap (λ (l : List ℕ). y ∷ keys_from g (m - (i + 1)) l) (drop-drop (entry_size g) at page)

  pub key_found : r ≡ true → mem k (keys_from g (m - i) (drop at page)) ≡ true
  key_found t =
      let q : y ≡ k = eqb-true y k (sym f ∙ t) in
      let c : count k (y ∷ keys_from g (m - (i + 1)) (drop (at + entry_size g) page)) ≡ hit k y + count k (keys_from g (m - (i + 1)) (drop (at + entry_size g) page)) = refl in
      ap (mem k) one ∙ lt-ltb 0 (count k (y ∷ keys_from g (m - (i + 1)) (drop (at + entry_size g) page))) (omega (arith, ap (hit k) q, hit_same k))

  pub key_passed : r ≡ false → mem k (keys_from g (m - i) (drop at page)) ≡ mem k (keys_from g (m - (i + 1)) (drop (at + entry_size g) page))
  key_passed t = ap (mem k) one ∙ elim (hits k y) [
    | same z j ↦ absurd (eqb-false y k (sym f ∙ t) (sym z))
    | other z j ↦ let n = count k (keys_from g (m - (i + 1)) (drop (at + entry_size g) page)) in
        let c : hit k y + n ≡ n = omega arith in
        ap (ltb 0) c
  ]

pub keys_begin : (g : Geometry) (page : List ℕ) (k m from : ℕ) → mem k (keys_from g m (drop from page)) ≡ mem k (keys_from g (m - 0) (drop from page))
keys_begin g page k m from = let e : m - 0 ≡ m = omega arith in rw e

pub keys_end : (g : Geometry) (page : List ℕ) (k m i at : ℕ) → m ≤ i → false ≡ mem k (keys_from g (m - i) (drop at page))
keys_end g page k m i at h = let e : m - i ≡ 0 = omega arith in rw e (sym (le-ltb 0 0 (omega arith)))

-- ---- a search in the first `left` of some keys, first among the first n
module _ (k left n : ℕ) (l : List ℕ) where
  two_parts : n ≤ left → count k (take left l) ≡ count k (take n l) + count k (take (left - n) (drop n l))
  two_parts h =
      let s : left ≡ n + (left - n) = omega arith in
      ap (λ (a : ℕ). count k (take a l)) s ∙ ap (count k) (take-add n (left - n) l) ∙ count_append k (take n l) (take (left - n) (drop n l))

  pub in_first : mem k (take (min left n) l) ≡ true → mem k (take left l) ≡ true
  in_first e = elim (dec_le n left) [
    | yes h ↦ let m : min left n ≡ n = omega arith in mem_true k (take left l) (omega (arith, two_parts h, ltb-true 0 (count k (take n l)) (sym (ap (λ (a : ℕ). mem k (take a l)) m) ∙ e)))
    | no h ↦ let m : min left n ≡ left = omega arith in sym (ap (λ (a : ℕ). mem k (take a l)) m) ∙ e
  ]

  module _ (e : mem k (take (min left n) l) ≡ false) where
    pub not_in_first : left ≤ n → mem k (take left l) ≡ false
    not_in_first h = let m : min left n ≡ left = omega arith in sym (ap (λ (a : ℕ). mem k (take a l)) m) ∙ e

    pub in_rest : n < left → mem k (take left l) ≡ mem k (take (left - n) (drop n l))
    in_rest h =
        let m : min left n ≡ n = omega arith in
        let z : count k (take n l) ≡ 0 = omega (arith, ltb-false 0 (count k (take n l)) (sym (ap (λ (a : ℕ). mem k (take a l)) m) ∙ e)) in
        let c : count k (take left l) ≡ count k (take (left - n) (drop n l)) = omega (arith, two_parts (omega arith)) in
        ap (ltb 0) c

pub entry_least : (g : Geometry) → Valid g → 7 ≤ entry_size g
unfolding entry_size
entry_least g v = omega (arith, v.one)

-- an entry among the first m lies in the page
pub at_entry : (g : Geometry) (from m i at size : ℕ) → Valid g → from + entry_size g * m ≤ size → i < m → at ≡ from + entry_size g * i → (at + entry_size g ≤ size) × (at + (5 + 2 * g.width) ≤ size)
unfolding entry_size
at_entry g from m i at size v h l e = let j : entry_size g * suc i ≤ entry_size g * m = mul-le-mul_left (entry_size g) l in let k : at + entry_size g ≤ size = omega arith in (k, k)
