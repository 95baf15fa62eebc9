-- The first half of the check from its parts: page 0, the bitmap's place, the root.
use Rattle.rules.proofs.AnswerLaws.{same_refusal}
use Rattle.rules.specs.Answers.{refused, answer_of}
use Rattle.std.specs.Prelude.{Option, Some, None, Result, Ok, Err}
use Rattle.refusals.specs.declared.Refusal.{Refusal}
use mathlib.Core.Path.{◌≡◌, refl, ap, sym, ◌∙◌, subst}
use mathlib.Core.Bool.{Bool, true, false}
use mathlib.Core.List.{List, []}
use Prim.Native.Nat.{ℕ, suc, ◌+◌, ◌-◌, ◌≤◌}
use native.Mathlib.Omega.{arith}
use lib.Seq.{drop-drop, take-take}
use lib.ListN.{length, take, drop, replicate, length-append, length-replicate}
use borrow.Author.Tests.{leb-true}
use Rattle.geometry.specs.declared.Geometry.{Geometry}
use Rattle.geometry.specs.Choose.{choose}
use Rattle.geometry.specs.ChooseLaws.{choose_true, choose_false}
use Rattle.geometry.specs.Geometry.{control_size}
use Rattle.geometry.specs.ListLaws.{drop_of_take}
use Rattle.geometry.specs.Page.{page_of}
use Rattle.packet.specs.Packet.{Packet, bad, good, View, packet_of, view_of}
use Rattle.packet.specs.declared.Whole.{Whole}
use Rattle.packet.specs.Judged.{judged}
use Rattle.packet.specs.Reading.{Right, right_packet}
use Rattle.rules.specs.declared.Totals.{Totals}
use Rattle.rules.specs.Result.{Res, ok, err, and_then}
use Rattle.rules.proofs.ResultLaws.{ok_inj, clash, on_then, on_refuse, then_ok, then_err}
use Rattle.rules.specs.PageSets.{count, Within}
use Rattle.rules.proofs.PageSetLaws.{count_append}
use Rattle.rules.specs.Chain.{Views, views_of, Link, content, packet_at, any_page}
use Rattle.rules.proofs.ChainLaws.{packet_good, length_pages, walk_sound}
use Rattle.rules.specs.Tree.{Items, own_pages, inner_pages, all_pages, Map, in_root, in_file, map_pages, used}
use Rattle.rules.specs.Control.{the_root, Head, head_of, map_start, map_count, root_page, most_local, local_allowed, place_zeros, field_at}
use Rattle.rules.specs.Owners.{OwnerRecord, free, own, owners}
use Rattle.owners.specs.Owned.{owner_at, nonzero, Represents}
use Rattle.owners.specs.OwnerLaws.{represents_none, represents_own, represents_length, in_use, length_own, represents_owners}
use Rattle.rules.specs.Check.{Scan, raw_bits, judge_bits, judge_map, judge_directory, judge_sub, scan, check, scan_with, judge_map_file}
use Rattle.rules.proofs.Soundness.{scan_sound}
use Rattle.directory.specs.declared.control.Root.{Root}
use Rattle.directory.specs.declared.control.Root.TheVariants as root
use Rattle.directory.specs.Faults.{control}
use Rattle.walk.specs.Walks.{Answers, plus_directory, own_directory}
use Rattle.volume.specs.Scans.{root_of, no_entries, MapClaimed, Scanned}
use Rattle.chain.specs.KnownChain.{ChainAt}
use Rattle.chain.proofs.Following.{chain_at_lem}

-- a bitmap in the root is for few pages
head_local : (g : Geometry) (b : List ℕ) (h : Head) → head_of g b ≡ ok h → h.local ≡ true → g.pages ≤ most_local
unfolding head_of
head_local g b h e l =
    on_refuse _ _ _ _ _ e λ g₁ e. on_refuse _ _ _ _ _ e λ g₂ e. on_refuse _ _ _ _ _ e λ g₃ e. on_refuse _ _ _ _ _ e λ g₄ e. on_refuse _ _ _ _ _ e λ g₅ e. on_refuse _ _ _ _ _ e λ g₆ e.
    let q = ap (λ (x : Head). x.local) (ok_inj e) ∙ l in
    leb-true g.pages most_local (sym (choose_true _ _) ∙ ap (λ (x : Bool). choose x (local_allowed g) (place_zeros g.width (field_at g.width b))) (sym q) ∙ g₆)

-- ---- what the root's control field says
module _ (g : Geometry) (vs : Views) where
  abbrev walked : Map → Res Items
  walked m = judge_directory g vs (suc g.pages) (judge_sub g vs (suc g.pages) 8) (root_page g) the_root (map_pages m) 0

  -- the rest of the scan, the bitmap's place known
  abbrev rest : Head → Map → Res Scan
  rest h m = and_then (walked m) (λ t. ok (record { image = record { tree = t; map = m }; raw = raw_bits h m }))

  abbrev on_head : Head → Res Scan
  on_head h = and_then (judge_map g vs (suc g.pages) h) (rest h)

  pub record IsHead (h : Head) : Type 0 where
    pub bytes : List ℕ
    pub next : ℕ
    pub packet : vs.pages 0 ≡ good bytes next
    pub head : head_of g bytes ≡ ok h

  from_head : (h : Head) → IsHead h → scan g vs ≡ on_head h
  unfolding scan scan_with
  from_head h k = simp (packet_good vs.pages 0 k.bytes k.next k.packet, then_ok, k.head)

  -- what the root's control field says
  pub data Said (r : Root) : Type 0 where
    local : (h : Head) → IsHead h → r ≡ root.Local → h.local ≡ true → Said r
    remote : (h : Head) → IsHead h → r ≡ root.Remote (map_start g.width h) (map_count g.width h) → h.local ≡ false → Said r

  by_place : (r : Root) (h : Head) → IsHead h → (l : Bool) → h.local ≡ l → r ≡ choose l root.Local (root.Remote (map_start g.width h) (map_count g.width h)) → Said r
  by_place r h k true e q = local h k (q ∙ choose_true _ _) e
  by_place r h k false e q = remote h k (q ∙ choose_false _ _) e

  by_head : (r : Root) (b : List ℕ) (n : ℕ) → vs.pages 0 ≡ good b n → (y : Res Head) → head_of g b ≡ y → ok r ≡ control g.width y → Said r
  by_head r b n e (ok h) q i = by_place r h (record { bytes = b; next = n; packet = e; head = q }) h.local refl (ok_inj i)
  by_head r b n e (err k p) q i = clash (sym i)

  by_packet : (r : Root) (x : Packet) → vs.pages 0 ≡ x → ok r ≡ root_of g x → Said r
  by_packet r bad e q = clash (sym q)
  by_packet r (good b n) e q = by_head r b n e (head_of g b) refl q

  pub said : (r : Root) → ok r ≡ root_of g (vs.pages 0) → Said r
  said r q = by_packet r (vs.pages 0) refl q

  -- its refusal is the scan's
  bad_page : vs.pages 0 ≡ bad → scan g vs ≡ err 2 0
  unfolding scan scan_with packet_at
  bad_page e = simp (e, then_err)

  bad_head : (b : List ℕ) (n k p : ℕ) → vs.pages 0 ≡ good b n → head_of g b ≡ err k p → scan g vs ≡ err k p
  unfolding scan scan_with
  bad_head b n k p e q = simp (packet_good vs.pages 0 b n e, then_ok, q, then_err)

  module _ (z : Refusal) where
    by_field : (b : List ℕ) (n : ℕ) → vs.pages 0 ≡ good b n → (y : Res Head) → head_of g b ≡ y → refused z ≡ control g.width y → scan g vs ≡ refused z
    by_field b n e (ok h) s q = clash q
    by_field b n e (err k p) s q = bad_head b n k p e s ∙ same_refusal k p z (sym q)

    by_view : (x : Packet) → vs.pages 0 ≡ x → refused z ≡ root_of g x → scan g vs ≡ refused z
    by_view bad e q = bad_page e ∙ same_refusal 2 0 z (sym q)
    by_view (good b n) e q = by_field b n e (head_of g b) refl q

    pub root_refused : refused z ≡ root_of g (vs.pages 0) → scan g vs ≡ refused z
    root_refused q = by_view (vs.pages 0) refl q

  -- ---- the two cases
  abbrev told : Root → ℕ
  told root.Local = 0
  told (root.Remote a b) = 1

  pub record InRoot : Type 0 where
    pub head : Head
    pub is_head : IsHead head
    pub scan_is : scan g vs ≡ rest head in_root
    pub few : g.pages ≤ most_local

  pub scan_local : (r : Root) → ok r ≡ root_of g (vs.pages 0) → r ≡ root.Local → InRoot
  unfolding judge_map
  scan_local r q i = elim (said r q) [
    | local h k j l ↦ record { head = h; is_head = k; scan_is = from_head h k ∙ simp (l, choose_true, then_ok); few = head_local g k.bytes h k.head l }
    | remote h k j l ↦ absurd (let z : 1 ≡ 0 = ap told (sym j ∙ i) in omega arith)
  ]

  pub record InFile (start n : ℕ) : Type 0 where
    pub head : Head
    pub scan_is : scan g vs ≡ and_then (judge_map_file g vs (suc g.pages) start n) (rest head)

  pub scan_remote : (r : Root) (start n : ℕ) → ok r ≡ root_of g (vs.pages 0) → r ≡ root.Remote start n → InFile start n
  unfolding judge_map
  scan_remote r start n q i = elim (said r q) [
    | local h k j l ↦ absurd (let z : 0 ≡ 1 = ap told (sym j ∙ i) in omega arith)
    | remote h k j l ↦
        let a : map_start g.width h ≡ start = ap place_start (sym j ∙ i) in
        let b : map_count g.width h ≡ n = ap place_count (sym j ∙ i) in
        record { head = h; scan_is = from_head h k ∙ simp (l, choose_false, a, b) }
  ]
    where
      place_start : Root → ℕ
      place_start root.Local = 0
      place_start (root.Remote a b) = a

      place_count : Root → ℕ
      place_count root.Local = 0
      place_count (root.Remote a b) = b

  -- ---- the scan from the root's walk
  same_totals : (a b c d e f : ℕ) → a ≡ d → b ≡ e → c ≡ f → ◌≡◌ {A = Totals} (record { used = a; files = b; directories = c }) (record { used = d; files = e; directories = f })
  same_totals a b c d e f p q r = λ i. record { used = p i; files = q i; directories = r i }

  pub scan_from : (h : Head) (m : Map) → scan g vs ≡ rest h m → (n : ℕ) (t : List OwnerRecord) → n ≡ length (map_pages m) → t ≡ own 2 (map_pages m) (replicate g.pages free) → (r : Result Totals Refusal) (u : List OwnerRecord)
      → Answers (plus_directory (no_entries n)) (own_directory 1 0 t) (walked m) r u → Scanned g vs r u
  scan_from h m e n t l z (Ok d) u (i, a, b, k) = (
    record { image = record { tree = i; map = m }; raw = raw_bits h m },
    e ∙ simp (a, then_ok),
    b ∙ same_totals _ _ _ _ _ _ (omega (arith, l, length-append (all_pages i) (map_pages m), length-append (own_pages i) (inner_pages i))) (omega arith) (omega arith),
    k ∙ ap (λ (x : List OwnerRecord). own_directory 1 0 x i) z,
  )
  scan_from h m e n t l z (Err x) u a = e ∙ simp (a, then_err)

-- ---- a table with the bitmap file
pub record Mapped (g : Geometry) (m : Map) (n : ℕ) (t : List OwnerRecord) : Type 0 where
  pub represents : Represents t (map_pages m)
  pub long : length t ≡ g.pages
  pub used_is : n ≡ in_use t

pub mapped : (g : Geometry) (m : Map) (n : ℕ) (t : List OwnerRecord) → Within g.pages (map_pages m) → n ≡ length (map_pages m) → t ≡ own 2 (map_pages m) (replicate g.pages free) → Mapped g m n t
mapped g m n t f l z =
    let N = g.pages in
    let e = length-replicate {A = OwnerRecord} N free in
    let a = represents_own 2 (map_pages m) (replicate N free) [] (omega arith) (represents_none N) (λ x. rw e (omega (arith, f x))) in
    let r : Represents t (map_pages m) = λ x. omega (arith, a x, count_append x (map_pages m) [], ap (λ (y : List OwnerRecord). nonzero (owner_at y x)) z) in
    record { represents = r; long = ap length z ∙ length_own 2 (map_pages m) (replicate N free) ∙ e; used_is = l ∙ sym (represents_length t (map_pages m) r) }

-- what the bitmap file's claiming gives
pub record FileMapped (g : Geometry) (vs : Views) (start count n : ℕ) (u : List OwnerRecord) : Type 0 where
  pub map : Map
  pub map_is : judge_map_file g vs (suc g.pages) start count ≡ ok map
  pub pages_are : n ≡ length (map_pages map)
  pub table_is : u ≡ own 2 (map_pages map) (replicate g.pages free)
  pub inside : Within g.pages (map_pages map)
  pub some : 1 ≤ n

pub file_mapped : (g : Geometry) (vs : Views) (start count : ℕ) (r : Result Totals Refusal) (u : List OwnerRecord) (d : Totals) → MapClaimed g vs start count r u → r ≡ Ok d → FileMapped g vs start count d.used u
unfolding judge_map_file MapClaimed
file_mapped g vs start count r u d k i =
    let a : MapClaimed g vs start count (Ok d) u = subst (λ (x : Result Totals Refusal). MapClaimed g vs start count x u) i k in
    let n : d.used ≡ length (map_pages a.0) = ap (λ (x : Totals). x.used) a.2 in
    on_refuse _ _ _ _ _ a.1 λ g₁ q. on_then _ _ _ q λ ls y q. on_refuse _ _ _ _ _ q λ g₂ q. on_refuse _ _ _ _ _ q λ g₃ q.
    let c = walk_sound g.pages vs.pages any_page (suc g.pages) 0 [] 0 start ls (λ z. omega arith) y in
    let m : in_file ls ≡ a.0 = ok_inj q in
    record {
      map = a.0;
      map_is = a.1;
      pages_are = n;
      table_is = a.3;
      inside = subst (λ (x : Map). Within g.pages (map_pages x)) m (λ z. omega (arith, c.clear z));
      some = omega (arith, n, ap (λ (x : Map). length (map_pages x)) m, length_pages ls, c.some);
    }

pub map_refused_is : (g : Geometry) (vs : Views) (start count : ℕ) (r : Result Totals Refusal) (u : List OwnerRecord) (z : Refusal) → MapClaimed g vs start count r u → r ≡ Err z → judge_map_file g vs (suc g.pages) start count ≡ refused z
unfolding MapClaimed
map_refused_is g vs start count r u z k i = subst (λ (x : Result Totals Refusal). MapClaimed g vs start count x u) i k

pub file_refused : (g : Geometry) (vs : Views) (start count n p : ℕ) → InFile g vs start count → judge_map_file g vs (suc g.pages) start count ≡ err n p → scan g vs ≡ err n p
file_refused g vs start count n p k e = k.scan_is ∙ ap (λ (x : Res Map). and_then x (rest g vs k.head)) e ∙ then_err n p (rest g vs k.head)

pub file_scan : (g : Geometry) (vs : Views) (start count n : ℕ) (u : List OwnerRecord) (k : InFile g vs start count) (m : FileMapped g vs start count n u) → scan g vs ≡ rest g vs k.head m.map
file_scan g vs start count n u k m = k.scan_is ∙ ap (λ (x : Res Map). and_then x (rest g vs k.head)) m.map_is ∙ then_ok m.map (rest g vs k.head)

-- ---- page 0 as the code reads it
pub page_same : (g : Geometry) (p : ℕ) {page q : List ℕ} → page ≡ q → judged (packet_of g.width p page) ≡ judged (packet_of g.width p q)
page_same g p e = ap (λ (x : List ℕ). judged (packet_of g.width p x)) e

module _ (g : Geometry) (p : ℕ) (page : List ℕ) (r : Option Whole) (e : r ≡ judged (packet_of g.width p page)) where
  pub root_bad : r ≡ None → err 2 0 ≡ root_of g (packet_of g.width p page)
  root_bad z = go (packet_of g.width p page) (sym z ∙ e)
    where
      go : (x : Packet) → None ≡ judged x → err 2 0 ≡ root_of g x
      go bad e = refl
      go (good b n) e = absurd (let z : ◌≡◌ {A = ℕ} 0 1 = cc in omega arith)

  module _ (w : Whole) (m : r ≡ Some w) where
    -- its packet
    record There : Type 0 where
      pub bytes : List ℕ
      pub packet : packet_of g.width p page ≡ good bytes w.next
      pub long : w.length ≡ length bytes

    there : There
    there = go (packet_of g.width p page) refl (sym m ∙ e)
      where
        go : (x : Packet) → packet_of g.width p page ≡ x → Some w ≡ judged x → There
        go bad y e = absurd (let z : ◌≡◌ {A = ℕ} 0 1 = cc in omega arith)
        go (good b n) y e =
            let k : w ≡ record { length = length b; next = n } = cc in
            record { bytes = b; packet = y ∙ ap (good b) (sym (ap (λ (q : Whole). q.next) k)); long = ap (λ (q : Whole). q.length) k }

    right : Right g.width page there.bytes w.next
    right = right_packet g.width p page there.bytes w.next there.packet

    pub page_fits : w.length + 1 ≤ length page
    page_fits = omega (arith, right.room, there.long)

    pub root_good : (d from : List ℕ) → d ≡ take w.length (drop 1 from) → from ≡ page → (x : Result Root Refusal) → answer_of x ≡ control g.width (head_of g d)
        → answer_of x ≡ root_of g (packet_of g.width p page)
    root_good d from i f x q =
        let j : d ≡ there.bytes = i ∙ ap (λ (a : List ℕ). take w.length (drop 1 a)) f ∙ ap (λ (a : ℕ). take a (drop 1 page)) there.long ∙ sym right.bytes_are in
        q ∙ ap (λ (a : List ℕ). control g.width (head_of g a)) j ∙ sym (ap (root_of g) there.packet)

-- ---- the bitmap's bytes as they stand
-- in the root: the four bytes of the control field
head_field : (g : Geometry) (b : List ℕ) (h : Head) → head_of g b ≡ ok h → (h.field ≡ field_at g.width b) × (control_size g ≤ length b)
unfolding head_of
head_field g b h e =
    on_refuse _ _ _ _ _ e λ g₁ e. on_refuse _ _ _ _ _ e λ g₂ e. on_refuse _ _ _ _ _ e λ g₃ e. on_refuse _ _ _ _ _ e λ g₄ e. on_refuse _ _ _ _ _ e λ g₅ e. on_refuse _ _ _ _ _ e λ g₆ e.
    (ap (λ (x : Head). x.field) (sym (ok_inj e)), leb-true (control_size g) (length b) g₁)

scanned_raw : (g : Geometry) (vs : Views) (h : Head) (m : Map) (s : Scan) → rest g vs h m ≡ ok s → s.raw ≡ raw_bits h m
scanned_raw g vs h m s e = on_then _ _ _ e λ t a e. ap (λ (x : Scan). x.raw) (sym (ok_inj e))

pub raw_local : (g : Geometry) (image : List ℕ) (k : InRoot g (views_of g image)) (s : Scan) → scan g (views_of g image) ≡ ok s → s.raw ≡ take 4 (drop (3 + g.width) (page_of g 0 image))
unfolding view_of control_size
raw_local g image k s e =
    let n = g.width in
    let page = page_of g 0 image in
    let b = k.is_head.bytes in
    let r = right_packet n 0 page b k.is_head.next k.is_head.packet in
    let f = head_field g b k.head k.is_head.head in
    let d : drop (n + 2) b ≡ take (length b - (n + 2)) (drop (1 + (n + 2)) page) =
    ap (drop (n + 2)) r.bytes_are ∙ drop_of_take (n + 2) (length b) (drop 1 page) (omega (arith, f.1)) ∙ ap (take (length b - (n + 2))) (drop-drop (n + 2) 1 page) in
    let a : 1 + (n + 2) ≡ 3 + n = omega arith in
    scanned_raw g (views_of g image) k.head in_root s (sym k.scan_is ∙ e) ∙ f.0 ∙ ap (take 4) d ∙ take-take 4 (length b - (n + 2)) (drop (1 + (n + 2)) page) (omega (arith, f.1)) ∙ ap (λ (x : ℕ). take 4 (drop x page)) a

-- in a file: its content
pub record RawFile (g : Geometry) (v : View) (start : ℕ) (s : Scan) : Type 0 where
  pub links : List Link
  pub chain : ChainAt g v start links
  pub raw_is : s.raw ≡ content links

pub raw_file : (g : Geometry) (vs : Views) (start count : ℕ) (k : InFile g vs start count) (s : Scan) → scan g vs ≡ ok s → RawFile g vs.pages start s
unfolding judge_map_file
raw_file g vs start count k s e =
    on_then _ _ _ (sym k.scan_is ∙ e) λ m q z. on_refuse _ _ _ _ _ q λ g₁ q. on_then _ _ _ q λ ls y q. on_refuse _ _ _ _ _ q λ g₂ q. on_refuse _ _ _ _ _ q λ g₃ q.
    let c = walk_sound g.pages vs.pages any_page (suc g.pages) 0 [] 0 start ls (λ x. omega arith) y in
    record { links = ls; chain = chain_at_lem g vs.pages any_page [] start ls c; raw_is = scanned_raw g vs k.head m s z ∙ ap (raw_bits k.head) (sym (ok_inj q)) }

-- ---- the check from its halves
module _ (g : Geometry) (vs : Views) where
  pub check_refused : (n p : ℕ) → scan g vs ≡ err n p → check g vs ≡ err n p
  unfolding check
  check_refused n p e = simp (e, then_err)

  module _ (s : Scan) (e : scan g vs ≡ ok s) where
    pub check_differs : (d : ℕ) → judge_bits s.raw (used s.image) ≡ err 13 d → check g vs ≡ err 13 d
    unfolding check
    check_differs d q = simp (e, then_ok, q, then_err)

    pub check_same : judge_bits s.raw (used s.image) ≡ ok tt → check g vs ≡ ok s.image
    unfolding check
    check_same q = simp (e, then_ok, q)

    pub scan_table : (u : List OwnerRecord) → u ≡ owners g.pages s.image → Represents u (used s.image)
    scan_table u q = subst (λ (x : List OwnerRecord). Represents x (used s.image)) (sym q) (represents_owners g.pages s.image (scan_sound g vs s e).clear)
