-- Control fields as the code reads them.
use mathlib.Core.Path.{◌≡◌, refl, sym, ap, ◌∙◌}
use mathlib.Core.Bool.{Bool, true, false}
use mathlib.Core.List.{List, [], ◌∷◌, ◌++◌, append_assoc}
use Prim.Native.Nat.{ℕ, zero, suc, ◌+◌, ◌-◌, ◌*◌, ◌%◌, ◌≤◌, ◌<◌}
use native.Mathlib.Omega.{arith}
use lib.Dec.{eqb}
use lib.ListN.{length, get_or, take, drop, length-drop, length-append}
use lib.Seq.{take-take, drop-drop}
use borrow.Author.Tests.{le-leb, lt-leb, eq-eqb, ne_eqb}
use Rattle.std.specs.Prelude.{Result, Ok, Err}
use Rattle.refusals.specs.declared.Refusal.{Refusal}
use Rattle.refusals.specs.declared.Fault.TheVariants.{Control, Marker, InProgress}
use Rattle.geometry.specs.declared.Geometry.{Geometry}
use Rattle.geometry.specs.ChooseLaws.{choose_true, choose_false}
use Rattle.geometry.specs.Geometry.{control_size}
use Rattle.geometry.specs.ListLaws.{drop_take}
use Rattle.geometry.specs.Number.{number, number_bytes}
use Rattle.geometry.specs.NumberLaws.{length_number}
use Rattle.geometry.specs.Page.{overwritten}
use Rattle.packet.proofs.Fronts.{front, front_more, front_whole}
use Rattle.rules.specs.Result.{ok, and_then, refuse_unless}
use Rattle.rules.specs.Answers.{answer_of}
use Rattle.rules.specs.Chain.{any_page}
use Rattle.rules.specs.Control.{marker, Parent, control_at, field_at, most_local, place_zeros, head_of, sub_control, root_page, sub_page}
use Rattle.directory.specs.declared.control.Root.{Root}
use Rattle.directory.specs.declared.control.Root.TheVariants.{Local, Remote}
use Rattle.directory.specs.declared.control.Kind.{Kind}
use Rattle.directory.specs.declared.control.Kind.TheVariants as kind
use Rattle.directory.specs.Faults.{place, control, test_of, AreWhole}

-- a part of the four bitmap bytes, read from the page
pub in_field : (n k j : ℕ) (b : List ℕ) → k + j ≤ 4 → take j (drop k (field_at n b)) ≡ take j (drop (n + 2 + k) b)
in_field n k j b h =
    let e : 4 ≡ k + (4 - k) = omega arith in
    ap (λ (m : ℕ). take j (drop k (take m (drop (n + 2) b)))) e
    ∙ ap (take j) (drop_take k (4 - k) (drop (n + 2) b))
    ∙ take-take j (4 - k) (drop k (drop (n + 2) b)) (omega arith)
    ∙ ap (take j) (drop-drop k (n + 2) b)

-- the bitmap file's place
module _ (n : ℕ) (b : List ℕ) (h : 1 ≤ n) (k : n ≤ 2) (x : ℕ) (e : x ≡ number (take (4 - 2 * n) (drop (n + 2) b))) where
  zeros : number (take (4 - 2 * n) (field_at n b)) ≡ x
  zeros = ap number (take-take (4 - 2 * n) 4 (drop (n + 2) b) (omega arith)) ∙ sym e

  pub no_place : (x ≡ 0 → ⊥) → Err (record { 0 = Control; 1 = 0 }) ≡ place n (field_at n b)
  unfolding place
  no_place z = simp (place, zeros, ne_eqb x 0 z, choose_false)

  pub a_place : x ≡ 0 → (s c : ℕ) → s ≡ number (take n (drop (6 - n) b)) → c ≡ number (take n (drop 6 b)) → Ok (Remote s c) ≡ place n (field_at n b)
  unfolding place
  a_place z s c p q =
      let i : n + 2 + (4 - 2 * n) ≡ 6 - n = omega arith in
      let j : n + 2 + (4 - n) ≡ 6 = omega arith in
      let u : number (take n (drop (4 - 2 * n) (field_at n b))) ≡ s = ap number (in_field n (4 - 2 * n) n b (omega arith) ∙ ap (λ (m : ℕ). take n (drop m b)) i) ∙ sym p in
      let v : number (take n (drop (4 - n) (field_at n b))) ≡ c = ap number (in_field n (4 - n) n b (omega arith) ∙ ap (λ (m : ℕ). take n (drop m b)) j) ∙ sym q in
      simp (place, zeros, eq-eqb x 0 z, choose_true, u, v)

-- the root's control field, test after test
module _ (g : Geometry) (b : List ℕ) (k : ℕ) (q : k ≡ control_size g) where
  pub root_short : length b < k → answer_of (Err (record { 0 = Control; 1 = 0 })) ≡ control g.width (head_of g b)
  unfolding head_of and_then refuse_unless
  root_short h = simp (head_of, ← q, lt-leb k (length b) h)

  module _ (h : k ≤ length b) (m : ℕ) (e : m ≡ get_or b 0 0) where
    pub root_marker : (m ≡ 169 + g.width → ⊥) → answer_of (Err (record { 0 = Marker; 1 = 0 })) ≡ control g.width (head_of g b)
    unfolding head_of and_then refuse_unless marker
    root_marker z = simp (head_of, ← q, le-leb k (length b) h, ← e, marker, ne_eqb m (169 + g.width) z)

    module _ (z : m ≡ 169 + g.width) where
      marked : eqb m (169 + g.width) ≡ true
      marked = eq-eqb m (169 + g.width) z

      pub root_progress : (control_at g.width b % 2 ≡ 0 → ⊥) → answer_of (Err (record { 0 = InProgress; 1 = 0 })) ≡ control g.width (head_of g b)
      unfolding head_of and_then refuse_unless marker
      root_progress y = simp (head_of, ← q, le-leb k (length b) h, ← e, marker, marked, ne_eqb (control_at g.width b % 2) 0 y)

      module _ (y : control_at g.width b % 2 ≡ 0) (a : ℕ) (d : a ≡ number (take g.width (drop 1 b))) where
        idle : eqb (control_at g.width b % 2) 0 ≡ true
        idle = eq-eqb (control_at g.width b % 2) 0 y

        pub root_address : (a ≡ 0 → ⊥) → answer_of (Err (record { 0 = Control; 1 = 0 })) ≡ control g.width (head_of g b)
        unfolding head_of and_then refuse_unless marker
        root_address w = simp (head_of, ← q, le-leb k (length b) h, ← e, marker, marked, idle, ← d, ne_eqb a 0 w)

        module _ (w : a ≡ 0) where
          no_address : eqb a 0 ≡ true
          no_address = eq-eqb a 0 w

          pub root_bits : (control_at g.width b % 128 ≡ 0 → ⊥) → answer_of (Err (record { 0 = Control; 1 = 0 })) ≡ control g.width (head_of g b)
          unfolding head_of and_then refuse_unless marker
          root_bits v = simp (head_of, ← q, le-leb k (length b) h, ← e, marker, marked, idle, ← d, no_address, ne_eqb (control_at g.width b % 128) 0 v)

          module _ (v : control_at g.width b % 128 ≡ 0) where
            no_bits : eqb (control_at g.width b % 128) 0 ≡ true
            no_bits = eq-eqb (control_at g.width b % 128) 0 v

            remote : control_at g.width b < 128 → (t : Bool) → place_zeros g.width (field_at g.width b) ≡ t → answer_of (place g.width (field_at g.width b)) ≡ control g.width (head_of g b)
            unfolding head_of and_then refuse_unless marker place
            remote u true s = simp (place, head_of, ← q, le-leb k (length b) h, ← e, marker, marked, idle, ← d, no_address, no_bits, lt-leb 128 (control_at g.width b) u, choose_false, s, choose_true)
            remote u false s = simp (place, head_of, ← q, le-leb k (length b) h, ← e, marker, marked, idle, ← d, no_address, no_bits, lt-leb 128 (control_at g.width b) u, choose_false, s)

            pub root_remote : control_at g.width b < 128 → (r : Result Root Refusal) → r ≡ place g.width (field_at g.width b) → answer_of r ≡ control g.width (head_of g b)
            root_remote u r f = ap answer_of f ∙ remote u (place_zeros g.width (field_at g.width b)) refl

            pub root_local : 128 ≤ control_at g.width b → g.pages ≤ most_local → ok Local ≡ control g.width (head_of g b)
            unfolding head_of and_then refuse_unless marker
            root_local u l = simp (head_of, ← q, le-leb k (length b) h, ← e, marker, marked, idle, ← d, no_address, no_bits, le-leb 128 (control_at g.width b) u, choose_true, le-leb g.pages most_local l)

            pub root_large : 128 ≤ control_at g.width b → most_local < g.pages → answer_of (Err (record { 0 = Control; 1 = 0 })) ≡ control g.width (head_of g b)
            unfolding head_of and_then refuse_unless marker
            root_large u l = simp (head_of, ← q, le-leb k (length b) h, ← e, marker, marked, idle, ← d, no_address, no_bits, le-leb 128 (control_at g.width b) u, choose_true, lt-leb g.pages most_local l)

-- a subdirectory's first page, test after test
module _ (g : Geometry) (up : Parent) (p : ℕ) (b : List ℕ) (k : ℕ) (q : k ≡ control_size g) where
  pub sub_short : length b < k → answer_of (Err (record { 0 = Control; 1 = p })) ≡ sub_page g up 0 p b
  unfolding sub_page and_then refuse_unless
  sub_short h = simp (sub_page, ← q, lt-leb k (length b) h)

  module _ (h : k ≤ length b) (m : ℕ) (e : m ≡ get_or b 0 0) where
    pub sub_marker : (m ≡ 169 + g.width → ⊥) → answer_of (Err (record { 0 = Marker; 1 = p })) ≡ sub_page g up 0 p b
    unfolding sub_page and_then refuse_unless marker
    sub_marker z = simp (sub_page, ← q, le-leb k (length b) h, ← e, marker, ne_eqb m (169 + g.width) z)

    module _ (z : m ≡ 169 + g.width) (a : ℕ) (d : a ≡ number (take 4 (drop 1 b))) where
      pub sub_name : (a ≡ up.name → ⊥) → answer_of (Err (record { 0 = Control; 1 = p })) ≡ sub_page g up 0 p b
      unfolding sub_page and_then refuse_unless marker
      sub_name w = simp (sub_page, ← q, le-leb k (length b) h, ← e, marker, eq-eqb m (169 + g.width) z, ← d, ne_eqb a up.name w)

      module _ (w : a ≡ up.name) where
        pub sub_zero : (get_or b 5 0 ≡ 0 → ⊥) → answer_of (Err (record { 0 = Control; 1 = p })) ≡ sub_page g up 0 p b
        unfolding sub_page and_then refuse_unless marker
        sub_zero y = simp (sub_page, ← q, le-leb k (length b) h, ← e, marker, eq-eqb m (169 + g.width) z, ← d, eq-eqb a up.name w, ne_eqb (get_or b 5 0) 0 y)

        module _ (y : get_or b 5 0 ≡ 0) (s : ℕ) (f : s ≡ number (take g.width (drop 6 b))) where
          pub sub_start : (s ≡ up.start → ⊥) → answer_of (Err (record { 0 = Control; 1 = p })) ≡ sub_page g up 0 p b
          unfolding sub_page and_then refuse_unless marker
          sub_start v = simp (sub_page, ← q, le-leb k (length b) h, ← e, marker, eq-eqb m (169 + g.width) z, ← d, eq-eqb a up.name w, eq-eqb (get_or b 5 0) 0 y, ← f, ne_eqb s up.start v)

          pub sub_whole : s ≡ up.start → (r : Result (Unit {0}) Refusal) → AreWhole g p (length b - k) r → answer_of r ≡ sub_page g up 0 p b
          unfolding sub_page and_then refuse_unless marker
          sub_whole v r u =
              simp (sub_page, ← q, le-leb k (length b) h, ← e, marker, eq-eqb m (169 + g.width) z, ← d, eq-eqb a up.name w, eq-eqb (get_or b 5 0) 0 y, ← f, eq-eqb s up.start v)
              (u (drop k b) (length-drop k b))

-- the test by the kind of chain
abbrev Judged : Type 0
Judged = Result (Unit {0}) Refusal

pub of_kind : (g : Geometry) (d e : Kind) (i p : ℕ) (b : List ℕ) (r : Judged) → d ≡ e → answer_of r ≡ test_of g e i p b → answer_of r ≡ test_of g d i p b
of_kind g d e i p b r q f = rw q f

pub file_page : (g : Geometry) (i p : ℕ) (b : List ℕ) → ok tt ≡ test_of g kind.File i p b
unfolding test_of any_page
file_page g i p b = refl

module _ (g : Geometry) (p : ℕ) (b : List ℕ) (r : Judged) where
  pub root_later : (i : ℕ) → (i ≡ 0 → ⊥) → AreWhole g p (length b) r → answer_of r ≡ test_of g kind.Root i p b
  unfolding test_of root_page
  root_later zero z u = absurd (z refl)
  root_later (suc i) z u = u b refl

  pub sub_later : (name start i : ℕ) → (i ≡ 0 → ⊥) → AreWhole g p (length b) r → answer_of r ≡ test_of g (kind.Sub name start) i p b
  unfolding test_of sub_page
  sub_later name start zero z u = absurd (z refl)
  sub_later name start (suc i) z u = u b refl

  pub sub_first : (name start i : ℕ) → i ≡ 0 → answer_of r ≡ sub_page g (record { name = name; start = start }) 0 p b → answer_of r ≡ test_of g (kind.Sub name start) i p b
  unfolding test_of
  sub_first name start i z u = rw z u

  module _ (k : ℕ) (q : k ≡ control_size g) where
    pub root_first : (i : ℕ) → i ≡ 0 → AreWhole g p (length b - k) r → answer_of r ≡ test_of g kind.Root i p b
    unfolding test_of root_page
    root_first i z u = rw (z, ← q) (u (drop k b) (length-drop k b))

    pub root_first_short : (i : ℕ) → i ≡ 0 → length b < k → AreWhole g p 0 r → answer_of r ≡ test_of g kind.Root i p b
    root_first_short i z h u = let e : length b - k ≡ 0 = omega arith in root_first i z (rw e u)

-- ---- a subdirectory's control field, written in four parts as the code does it
module _ (n : ℕ) (up : Parent) (b b₀ b₁ b₂ b₃ : List ℕ) (h : (length b ≡ 6 + n) × (n ≤ 2))
    (e₀ : b₀ ≡ overwritten 0 (number_bytes 1 (0xA9 + n)) b) (e₁ : b₁ ≡ overwritten 1 (number_bytes 4 up.name) b₀)
    (e₂ : b₂ ≡ overwritten 5 (number_bytes 1 0) b₁) (e₃ : b₃ ≡ overwritten 6 (number_bytes n up.start) b₂) where
  abbrev mark : List ℕ
  mark = (0xA9 + n) ∷ []

  abbrev above : List ℕ
  above = number_bytes 4 up.name

  is₀ : b₀ ≡ front mark b
  is₀ =
      let i : (0xA9 + n) % 256 ≡ 0xA9 + n = omega (arith, h.1) in
      e₀ ∙ front_more [] (number_bytes 1 (0xA9 + n)) b 0 refl ∙ ap (λ (y : ℕ). front (y ∷ []) b) i

  is₁ : b₁ ≡ front (mark ++ above) b
  is₁ = e₁ ∙ rw is₀ (front_more mark above b 1 refl)

  is₂ : b₂ ≡ front ((mark ++ above) ++ (0 ∷ [])) b
  is₂ = e₂ ∙ rw is₁ (front_more (mark ++ above) (number_bytes 1 0) b 5 refl)

  pub control_filled : b₃ ≡ sub_control n up
  unfolding sub_control marker
  control_filled =
      let s = number_bytes n up.start in
      let w : length (mark ++ (above ++ (0 ∷ s))) ≡ length b = simp (length-append, length_number) (omega (arith, h.0)) in
      e₃ ∙ rw is₂ (front_more ((mark ++ above) ++ (0 ∷ [])) s b 6 refl) ∙ ap (λ (xs : List ℕ). front xs b) (append_assoc (mark ++ above) (0 ∷ []) s)
      ∙ front_whole (mark ++ (above ++ (0 ∷ s))) b w
