-- Entries and their bytes: each gives the other back.
use Rattle.std.specs.Prelude.{◌≡◌, refl, List, ◌∷◌, ◌++◌, ℕ, suc, ◌+◌, ◌*◌, ◌≤◌, ◌<◌, length, get_or, take, drop}
use Rattle.std.proofs.Common.{ap, ap₂, sym, ◌∙◌, append_assoc, arith, length-append, length-drop, drop_at, take-add, drop-drop, drop-cons}
use Rattle.geometry.specs.declared.Geometry.{Geometry}
use Rattle.geometry.specs.Geometry.{entry_size}
use Rattle.geometry.specs.Number.{number, number_bytes, Bytes}
use Rattle.geometry.specs.NumberLaws.{length_number, number_of, bytes_drop}
use Rattle.rules.specs.declared.Entry.{Entry}
use Rattle.rules.specs.Names.{entry_of, entry_bytes}
use Rattle.rules.specs.WellFormed.{EntryFits}
use Rattle.reading_theorems.specs.ByteLaws.{number_back, number_front, number_fits, byte_at}

pub entry_size_lem : (g : Geometry) → entry_size g ≡ 5 + 2 * g.width
unfolding entry_size
entry_size_lem g = refl

pub length_entry : (g : Geometry) (e : Entry) → length (entry_bytes g.width e) ≡ entry_size g
length_entry g e = simp (length-append, length_number) (omega (arith, entry_size_lem g))

pub entry_back : (n : ℕ) (e : Entry) (rest : List ℕ) → EntryFits n e → entry_of n (entry_bytes n e ++ rest) ≡ e
entry_back n e rest f =
    let s = number_bytes n e.start in
    let c = number_bytes n e.pages in
    let b = entry_bytes n e ++ rest in
    let r : drop 5 b ≡ s ++ (c ++ rest) = append_assoc s c rest in
    let q₁ : number (take 4 b) ≡ e.name = number_of 4 e.name f.four in
    let r' : drop (5 + n) b ≡ c ++ rest = sym (drop-drop n 5 b) ∙ ap (drop n) r ∙ drop_at s (c ++ rest) n (length_number n e.start) in
    let q₃ : number (take n (drop 5 b)) ≡ e.start = ap (λ (l : List ℕ). number (take n l)) r ∙ number_front n e.start (c ++ rest) f.start in
    let q₄ : number (take n (drop (5 + n) b)) ≡ e.pages = ap (λ (l : List ℕ). number (take n l)) r' ∙ number_front n e.pages rest f.pages in
    λ i. record { name = q₁ i; extension = e.extension; start = q₃ i; pages = q₄ i }

module _ (g : Geometry) (b : List ℕ) (h : Bytes b) (l : entry_size g ≤ length b) where
  pub entry_bytes_lem : entry_bytes g.width (entry_of g.width b) ≡ take (entry_size g) b
  entry_bytes_lem =
      let n = g.width in
      let e : entry_size g ≡ 4 + suc (n + n) = omega (arith, entry_size_lem g) in
      let k : 4 < length b = omega arith in
      let p₁ = number_back 4 b h (omega arith) in
      let p₂ = number_back n (drop 5 b) (bytes_drop 5 b h) (simp length-drop (omega arith)) in
      let p₃ = number_back n (drop (5 + n) b) (bytes_drop (5 + n) b h) (simp length-drop (omega arith)) in
      let s = take n (drop 5 b) in
      let q : take (n + n) (drop 5 b) ≡ s ++ take n (drop (5 + n) b) = take-add n n (drop 5 b) ∙ ap (λ (x : List ℕ). s ++ take n x) (drop-drop n 5 b) in
      ap₂ (λ (x y : List ℕ). x ++ (get_or b 4 0 ∷ y)) p₁ (ap₂ (λ (x y : List ℕ). x ++ y) p₂ p₃ ∙ sym q)
      ∙ ap (λ (x : List ℕ). take 4 b ++ take (suc (n + n)) x) (sym (drop-cons b 4 0 k))
      ∙ sym (take-add 4 (suc (n + n)) b) ∙ ap (λ (m : ℕ). take m b) (sym e)

  pub entry_fits : EntryFits g.width (entry_of g.width b)
  entry_fits =
      let e = entry_size_lem g in
      record {
        four = number_fits 4 b h (omega arith);
        byte = byte_at 4 b h;
        start = number_fits g.width (drop 5 b) (bytes_drop 5 b h) (simp length-drop (omega arith));
        pages = number_fits g.width (drop (5 + g.width) b) (bytes_drop (5 + g.width) b h) (simp length-drop (omega arith));
      }
