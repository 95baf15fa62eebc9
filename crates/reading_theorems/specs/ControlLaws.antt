-- The root's control field: what is written is read, and what is read right is what would be written; whole entries.
use Rattle.std.specs.Prelude.{◌≡◌, true, false, List, [], ◌∷◌, ◌++◌, ℕ, suc, ◌+◌, ◌-◌, ◌*◌, ◌%◌, ◌^◌, ◌≤◌, ◌<◌, leb, get_or, take, drop, replicate}
use Rattle.std.proofs.Math.Path.{refl}
use Rattle.std.proofs.Common.{ap, ap₂, sym, ◌∙◌, subst, append_assoc, arith, length-append, length-drop, take-append-drop, take_at, drop_at, take-add, drop-drop, drop-cons, take_all, length-take-le}
use Rattle.std.proofs.Math.ListN.{length}
use Rattle.std.proofs.lemmas.List.{length-replicate, get_or_at}
use borrow.Author.Tests.{leb-true, leb-false, eqb-true, le-leb, eq-eqb}
use Rattle.geometry.specs.declared.Geometry.{Geometry}
use Rattle.geometry.specs.Choose.{choose}
use Rattle.geometry.specs.ChooseLaws.{choose_true, choose_false}
use Rattle.geometry.specs.Geometry.{entry_size, control_size}
use Rattle.geometry.specs.Number.{number, number_bytes, Bytes}
use Rattle.geometry.specs.NumberLaws.{length_number, number_of, bytes_take, bytes_drop}
use Rattle.rules.specs.Result.{ok}
use Rattle.rules.proofs.ResultLaws.{ok_inj, on_refuse, refuse_inv, then_ok, refuse_true}
use Rattle.rules.specs.Chain.{Link, first}
use Rattle.rules.specs.Tree.{Map, in_root, in_file, is_local}
use Rattle.rules.specs.Control.{marker, place_bytes, bitmap_field, root_control, whole_entries, Head, control_at, field_at, most_local, local_allowed, place_zeros, head_of, map_start, map_count}
use Rattle.reading_theorems.specs.ByteLaws.{number_back, bytes_are, number_front, byte_at, zero_bytes, zero_number}

-- ---- whole entries
pub whole_ok : (g : Geometry) (p : ℕ) (b : List ℕ) → length b % entry_size g ≡ 0 → whole_entries g p b ≡ ok tt
unfolding whole_entries
whole_ok g p b h = simp (whole_entries, eq-eqb (length b % entry_size g) 0 h, refuse_true)

pub whole_inv : (g : Geometry) (p : ℕ) (b : List ℕ) → whole_entries g p b ≡ ok tt → length b % entry_size g ≡ 0
unfolding whole_entries
whole_inv g p b e = eqb-true _ _ (refuse_inv _ _ _ _ e)

-- ---- the parts of a root's control field: marker, n bytes, one byte, four bytes
module _ (n x c : ℕ) (zs field rest : List ℕ) (h : length zs ≡ n) (k : length field ≡ 4) where
  abbrev parts : List ℕ
  parts = (x ∷ (zs ++ (c ∷ field))) ++ rest

  regroup : (zs ++ (c ∷ field)) ++ rest ≡ zs ++ (c ∷ (field ++ rest))
  regroup = append_assoc zs (c ∷ field) rest

  parts_length : 6 + n ≤ length parts
  parts_length = simp length-append (omega arith)

  parts_address : take n (drop 1 parts) ≡ zs
  parts_address = rw regroup (take_at zs (c ∷ (field ++ rest)) n h)

  parts_control : control_at n parts ≡ c
  parts_control = let e : n + 1 ≡ suc n = omega arith in rw (e, regroup) (get_or_at zs c (field ++ rest) 0 n h)

  parts_field : field_at n parts ≡ field
  parts_field =
      let e : n + 2 ≡ suc (n + 1) = omega arith in
      let d : drop (n + 1) ((zs ++ (c ∷ field)) ++ rest) ≡ field ++ rest = rw (← drop-drop 1 n) (rw regroup (ap (drop 1) (drop_at zs (c ∷ (field ++ rest)) n h))) in
      rw e (ap (take 4) d ∙ take_at field rest 4 k)

-- ---- the root's control field written and read
-- the head that a control field tells
abbrev pub head_for : ℕ → List ℕ → Map → Head
head_for n bits m = record { local = is_local m; field = bitmap_field n bits m }

-- the map's numbers fit its field
abbrev pub MapFits : Geometry → List ℕ → Map → Type 0
MapFits g bits in_root = (g.pages ≤ most_local) × (length bits ≡ 4)
MapFits g bits (in_file ls) = (first ls < 256 ^ g.width) × (length ls < 256 ^ g.width)

pub control_size_lem : (g : Geometry) → control_size g ≡ 6 + g.width
unfolding control_size
control_size_lem g = refl

module _ (g : Geometry) (one : 1 ≤ g.width) (two : g.width ≤ 2) where
  length_place : (start count : ℕ) → length (place_bytes g.width start count) ≡ 4
  length_place start count = simp (length-append, length_number, length-replicate) (omega arith)

  place_zeros_lem : (start count : ℕ) → number (take (4 - 2 * g.width) (place_bytes g.width start count)) ≡ 0
  place_zeros_lem start count =
      let k = 4 - 2 * g.width in
      let e = take_at (replicate k 0) (number_bytes g.width start ++ number_bytes g.width count) k (length-replicate k 0) in
      ap number (e ∙ sym (zero_bytes k)) ∙ zero_number k

  head_parts : (c : ℕ) (field rest : List ℕ) → length field ≡ 4 → c % 128 ≡ 0 → choose (leb 128 c) (local_allowed g) (place_zeros g.width field) ≡ true
      → head_of g ((marker g.width ∷ (number_bytes g.width 0 ++ (c ∷ field))) ++ rest) ≡ ok (record { local = leb 128 c; field = field })
  unfolding head_of
  head_parts c field rest k z t =
      let n = g.width in
      let zs = number_bytes n 0 in
      let h = length_number n 0 in
      let b = parts n (marker n) c zs field rest h k in
      let l : control_size g ≤ length b = omega (arith, control_size_lem g, parts_length n (marker n) c zs field rest h k) in
      simp (
        head_of,
        le-leb (control_size g) (length b) l,
        eq-eqb (marker n) (marker n) refl,
        parts_control n (marker n) c zs field rest h k,
        parts_address n (marker n) c zs field rest h k,
        parts_field n (marker n) c zs field rest h k,
        zero_number n,
        eq-eqb (c % 2) 0 (omega arith),
        eq-eqb (c % 128) 0 z,
        t,
        refuse_true,
        then_ok,
      )

  pub head_written : (bits : List ℕ) (m : Map) (rest : List ℕ) → MapFits g bits m
      → head_of g (root_control g.width bits m ++ rest) ≡ ok (head_for g.width bits m)
  unfolding root_control
  head_written bits in_root rest f = head_parts 128 bits rest f.1 refl (simp choose_true (le-leb g.pages most_local f.0))
  head_written bits (in_file ls) rest f =
      head_parts 0 (place_bytes g.width (first ls) (length ls)) rest (length_place (first ls) (length ls)) refl (simp (choose_false, place_zeros_lem))

  pub length_root : (bits : List ℕ) (m : Map) → MapFits g bits m → length (root_control g.width bits m) ≡ control_size g
  unfolding root_control
  length_root bits in_root f = simp (length-append, length_number) (omega (arith, f.1, control_size_lem g))
  length_root bits (in_file ls) f = simp (length-append, length_number, length-replicate) (omega (arith, control_size_lem g))

  pub start_written : (bits : List ℕ) (ls : List Link) → MapFits g bits (in_file ls) → map_start g.width (head_for g.width bits (in_file ls)) ≡ first ls
  start_written bits ls f =
      let n = g.width in
      let k = 4 - 2 * n in
      let c = number_bytes n (length ls) in
      let e = drop_at (replicate k 0) (number_bytes n (first ls) ++ c) k (length-replicate k 0) in
      ap (λ (l : List ℕ). number (take n l)) e ∙ number_front n (first ls) c f.0

  pub count_written : (bits : List ℕ) (ls : List Link) → MapFits g bits (in_file ls) → map_count g.width (head_for g.width bits (in_file ls)) ≡ length ls
  count_written bits ls f =
      let n = g.width in
      let zs = replicate {A = ℕ} (4 - 2 * n) 0 in
      let s = number_bytes n (first ls) in
      let c = number_bytes n (length ls) in
      let e : length (zs ++ s) ≡ 4 - n = simp (length-append, length_number, length-replicate) (omega arith) in
      ap (λ (l : List ℕ). number (take n (drop (4 - n) l))) (sym (append_assoc zs s c))
      ∙ ap (λ (l : List ℕ). number (take n l)) (drop_at (zs ++ s) c (4 - n) e)
      ∙ ap number (take_all n c (omega (arith, length_number n (length ls)))) ∙ number_of n (length ls) f.1

-- ---- the root's control field read and written
-- any list so long, cut at these places
cut_root : (n : ℕ) (b : List ℕ) → 6 + n ≤ length b → take (6 + n) b ≡ get_or b 0 0 ∷ (take n (drop 1 b) ++ (control_at n b ∷ field_at n b))
cut_root n [] h = absurd (omega arith)
cut_root n (x ∷ b) h =
    let e : 6 + n ≡ suc (n + 5) = omega arith in
    let e₁ : n + 1 ≡ suc n = omega arith in
    let e₂ : n + 2 ≡ suc (suc n) = omega arith in
    rw (e, e₁, e₂) (ap (λ (l : List ℕ). x ∷ l) (take-add n 5 b ∙ ap (λ (l : List ℕ). take n b ++ take 5 l) (drop-cons b n 0 (omega arith))))

cut_place : (n : ℕ) (field : List ℕ) → 1 ≤ n → n ≤ 2 → length field ≡ 4
    → take (4 - 2 * n) field ++ (take n (drop (4 - 2 * n) field) ++ take n (drop (4 - n) field)) ≡ field
cut_place n field one two h =
    let k = 4 - 2 * n in
    let e : k + n ≡ 4 - n = omega arith in
    let l : length (drop (4 - n) field) ≤ n = simp length-drop (omega arith) in
    let r : take n (drop (4 - n) field) ≡ drop n (drop k field) = take_all n (drop (4 - n) field) l ∙ ap (λ (i : ℕ). drop i field) (sym e) ∙ sym (drop-drop n k field) in
    ap (λ (x : List ℕ). take k field ++ (take n (drop k field) ++ x)) r
    ∙ ap (λ (x : List ℕ). take k field ++ x) (take-append-drop n (drop k field)) ∙ take-append-drop k field

-- four bytes that begin as a bitmap file's place are its place
place_read : (n : ℕ) (field : List ℕ) → 1 ≤ n → n ≤ 2 → length field ≡ 4 → Bytes field → number (take (4 - 2 * n) field) ≡ 0
    → place_bytes n (number (take n (drop (4 - 2 * n) field))) (number (take n (drop (4 - n) field))) ≡ field
place_read n field one two h bytes z =
    let k = 4 - 2 * n in
    let e₁ : replicate k 0 ≡ take k field = sym (zero_bytes k) ∙ ap (number_bytes k) (sym z) ∙ number_back k field bytes (omega arith) in
    let e₂ = number_back n (drop k field) (bytes_drop k field bytes) (simp length-drop (omega arith)) in
    let e₃ = number_back n (drop (4 - n) field) (bytes_drop (4 - n) field bytes) (simp length-drop (omega arith)) in
    ap₂ (λ (x y : List ℕ). x ++ y) e₁ (ap₂ (λ (x y : List ℕ). x ++ y) e₂ e₃) ∙ cut_place n field one two h

-- what a root's control field that is read right tells
pub record HeadRead (g : Geometry) (b : List ℕ) (h : Head) : Type 0 where
  pub size : length h.field ≡ 4
  pub bytes : Bytes h.field
  pub inside : h.local ≡ true → (g.pages ≤ most_local) × (take (control_size g) b ≡ root_control g.width h.field in_root)
  pub outside : h.local ≡ false → (bits : List ℕ) (ls : List Link) → first ls ≡ map_start g.width h → length ls ≡ map_count g.width h
      → take (control_size g) b ≡ root_control g.width bits (in_file ls)

module _ (g : Geometry) (one : 1 ≤ g.width) (two : g.width ≤ 2) (b : List ℕ) (bytes : Bytes b) (l : control_size g ≤ length b) where
  field_bytes : Bytes (field_at g.width b)
  field_bytes = bytes_take 4 (drop (g.width + 2) b) (bytes_drop (g.width + 2) b bytes)

  field_length : length (field_at g.width b) ≡ 4
  field_length = length-take-le 4 (drop (g.width + 2) b) (simp length-drop (omega (arith, control_size_lem g)))

  module _ (m : get_or b 0 0 ≡ marker g.width) (a : number (take g.width (drop 1 b)) ≡ 0) where
    head_cut : (c : ℕ) (field : List ℕ) → control_at g.width b ≡ c → field_at g.width b ≡ field
        → take (control_size g) b ≡ marker g.width ∷ (number_bytes g.width 0 ++ (c ∷ field))
    head_cut c field p q =
        let n = g.width in
        let k : 6 + n ≤ length b = omega (arith, control_size_lem g) in
        let zs = bytes_are n 0 (drop 1 b) (bytes_drop 1 b bytes) (simp length-drop (omega arith)) a in
        ap (λ (i : ℕ). take i b) (control_size_lem g) ∙ cut_root n b k
        ∙ ap₂ (λ (x : ℕ) (y : List ℕ). x ∷ (y ++ (control_at n b ∷ field_at n b))) m zs
        ∙ ap₂ (λ (x : ℕ) (y : List ℕ). marker n ∷ (number_bytes n 0 ++ (x ∷ y))) p q

    head_read : control_at g.width b % 128 ≡ 0
        → choose (leb 128 (control_at g.width b)) (local_allowed g) (place_zeros g.width (field_at g.width b)) ≡ true
        → HeadRead g b (record { local = leb 128 (control_at g.width b); field = field_at g.width b })
    unfolding root_control
    head_read z t = record {
      size = field_length;
      bytes = field_bytes;
      inside = λ e. (
        leb-true g.pages most_local (simp (e, choose_true) at t),
        head_cut 128 (field_at g.width b) (omega (arith, byte_at (g.width + 1) b bytes, leb-true 128 (control_at g.width b) e)) refl,
      );
      outside = λ e bits ls s k.
          let y : number (take (4 - 2 * g.width) (field_at g.width b)) ≡ 0 = eqb-true _ 0 (simp (e, choose_false) at t) in
          head_cut 0 (place_bytes g.width (first ls) (length ls)) (omega (arith, leb-false 128 (control_at g.width b) e))
          (rw (s, k) (sym (place_read g.width (field_at g.width b) one two field_length field_bytes y)));
    }

pub head_sound : (g : Geometry) (b : List ℕ) (h : Head) → 1 ≤ g.width → g.width ≤ 2 → Bytes b → head_of g b ≡ ok h → HeadRead g b h
unfolding head_of
head_sound g b h one two bytes e =
    on_refuse _ _ _ _ _ e λ g₁ e. on_refuse _ _ _ _ _ e λ g₂ e. on_refuse _ _ _ _ _ e λ g₃ e.
    on_refuse _ _ _ _ _ e λ g₄ e. on_refuse _ _ _ _ _ e λ g₅ e. on_refuse _ _ _ _ _ e λ g₆ e.
    subst (HeadRead g b) (ok_inj e) (head_read g one two b bytes (leb-true _ _ g₁) (eqb-true _ _ g₂) (eqb-true _ _ g₄) (eqb-true _ _ g₅) g₆)
