-- For contracts: the writes of a gathering in the order of one pass over the source's entries, each directory's page written when it is closed; the image they leave is the gathered one.
use Rattle.std.specs.Prelude.{◌≡◌, List, [], ◌∷◌, ◌++◌, ℕ, zero, suc, ◌+◌, ◌≤◌, ◌<◌, length}
use Rattle.std.proofs.Math.Path.{refl}
use Rattle.std.proofs.Common.{ap, ap₂, sym, ◌∙◌, append-nil, append_assoc, add-mul, arith, length-append}
use mathlib.Core.Bool.{Bool, true, false}
use Rattle.geometry.specs.declared.Geometry.{Geometry}
use Rattle.geometry.specs.Geometry.{Valid, Fit, data_capacity, entry_size, first_entries, later_entries}
use Rattle.geometry.specs.Number.{Bytes}
use Rattle.geometry.specs.NumberLaws.{bytes_append}
use Rattle.packet.specs.Packet.{Write, write, after_writes}
use Rattle.rules.specs.declared.Entry.{Entry}
use Rattle.rules.specs.PageSets.{hit, count, range}
use Rattle.rules.proofs.PageSetLaws.{range_le}
use Rattle.rules.specs.Chain.{Link, first, linked}
use Rattle.rules.specs.Names.{entry_bytes}
use Rattle.rules.specs.Tree.{Label, width, Items, page, file, dir, file_entry, directory_entry, Token, new_page, entry, stamp_tokens, tokens, token_bytes, token_links, directory_links}
use Rattle.rules.proofs.StampLaws.{group_links}
use Rattle.rules.specs.Control.{Parent, sub_control}
use Rattle.rules.specs.Format.{upward}
use Rattle.reading_theorems.specs.DirectoryComplete.{pages_fit}
use Rattle.editing_theorems.specs.Capacity.{capacity_is, holds_later, length_slots}
use Rattle.editing_theorems.specs.AfterWrites.{write_pages, WritesFit, after_writes_append, fit_after_writes}
use Rattle.editing_theorems.specs.HeldPackets.{pages_linked, count_joined, count_directory, fits_join}
use Rattle.editing_theorems.specs.DirectoryWrites.{bytes_next}
use Rattle.editing_theorems.specs.MapWrites.{sub_bytes}
use Rattle.editing_theorems.specs.NewChains.{chain_of_fits, range_more, count_upward}
use Rattle.gathering.specs.Gather.{Bare, bare_end, bare_file, bare_dir, fits_here, opens, opened, slots_left, left_after, further, own_size, file_size, below_size, file_chain, laid, below_writes}
use Rattle.gathering.proofs.GatherPages.{upward_in, own_laid, inner_laid, file_pages}
use Rattle.gathering.proofs.GatherLaid.{BareEntries, fits_room, below_opened, count_below, RoomAfter, own_fits, sub_room, below_fits}
use Rattle.gathering.proofs.WriteOrder.{writes_turn}

-- an entry with its stamps before it, as bytes
abbrev pub group_bytes : ℕ → List Entry → Entry → List ℕ
group_bytes n ss e = token_bytes n (stamp_tokens ss (entry e ∷ []))

-- an entry that does not fit closes the page at hand, p with the bytes `head`: it points to the page q that is opened
abbrev pub closed : Bool → ℕ → List ℕ → ℕ → List Write → List Write
closed true p head q ws = ws
closed false p head q ws = write p head q ∷ ws

-- the page at hand with the entry, and its number
abbrev pub head_after : Bool → List ℕ → List ℕ → List ℕ
head_after true head e = head ++ e
head_after false head e = e

abbrev pub page_after : Bool → ℕ → ℕ → ℕ
page_after true p q = p
page_after false p q = q

module _ (g : Geometry) where
  -- a directory known as `here`: the page at hand is p with the bytes `head` and r width left, further pages from q up, chains below it from a up. An entry's chain is laid when the entry is met
  abbrev pub pass_writes : Parent → List ℕ → ℕ → ℕ → ℕ → ℕ → Bare → List Write
  pass_writes here head p r q a bare_end = write p head 0 ∷ []
  pass_writes here head p r q a (bare_file l bs t) =
      let c = fits_here r l in
      let e : Entry = record { name = l.name; extension = l.extension; start = a; pages = length (file_chain g a bs) } in
      closed c p head q (linked (file_chain g a bs)
      ++ pass_writes here (head_after c head (group_bytes g.width l.stamps e)) (page_after c p q) (left_after g r l) (q + opens c) (a + file_size g bs) t)
  pass_writes here head p r q a (bare_dir l d t) =
      let c = fits_here r l in
      let e : Entry = record { name = l.name; extension = l.extension; start = a; pages = 0 } in
      closed c p head q (pass_writes (record { name = l.name; start = a }) (sub_control g.width here) a (first_entries g) (a + 1) (a + own_size g d) d
      ++ pass_writes here (head_after c head (group_bytes g.width l.stamps e)) (page_after c p q) (left_after g r l) (q + opens c) (a + (own_size g d + below_size g d)) t)

-- ---- a page, a run above it, a run above that
pub runs_apart : (x p q k a n N : ℕ) → p < q → q + k ≤ a → a + n ≤ N → hit x p + count x (upward q k) + count x (upward a n) ≤ count x (range N)
runs_apart x p q k a n N h i j = omega (
  arith,
  count_upward x q k,
  count_upward x a n,
  range_more x (suc p) q (omega arith),
  range_more x (q + k) a i,
  range_more x (a + n) N j,
)

-- an entry with its stamps, then what follows
group_split : (n : ℕ) (ss : List Entry) (e : Entry) (ts : List Token) → token_bytes n (stamp_tokens ss (entry e ∷ ts)) ≡ group_bytes n ss e ++ token_bytes n ts
group_split n [] e ts = ap (λ (bs : List ℕ). bs ++ token_bytes n ts) (sym (append-nil (entry_bytes n e)))
group_split n (s ∷ ss) e ts = ap (λ (bs : List ℕ). entry_bytes n s ++ bs) (group_split n ss e ts) ∙ sym (append_assoc (entry_bytes n s) (group_bytes n ss e) (token_bytes n ts))

module _ (g : Geometry) where
  -- a directory's packets and all below it, as the rule lists them
  abbrev pub tree_writes : Parent → List ℕ → ℕ → Items → List Write
  tree_writes here head p t = linked (directory_links g head (page p t)) ++ below_writes g here t

  -- ---- one entry
  own_step : (c : Bool) (head : List ℕ) (p q : ℕ) (l : Label) (e : Entry) (t rest : Items) → tokens t ≡ stamp_tokens l.stamps (entry e ∷ tokens rest)
      → linked (directory_links g head (page p (opened c q t))) ≡ closed c p head q (linked (directory_links g (head_after c head (group_bytes g.width l.stamps e)) (page (page_after c p q) rest)))
  own_step true head p q l e t rest h =
      let n = g.width in
      let eb = group_bytes n l.stamps e in
      let b = token_bytes n (tokens rest) in
      let ls = token_links n [] (tokens rest) in
      ap (λ (ts : List Token). linked (token_links n head (new_page p ∷ ts))) h
      ∙ ap₂ (λ (bs : List ℕ) (ms : List Link). write p (head ++ bs) (first ms) ∷ linked ms) (group_split n l.stamps e (tokens rest)) (group_links n [] l e (tokens rest))
      ∙ ap (λ (bs : List ℕ). write p bs (first ls) ∷ linked ls) (sym (append_assoc head eb b))
  own_step false head p q l e t rest h =
      let n = g.width in
      let eb = group_bytes n l.stamps e in
      let ls = token_links n [] (tokens rest) in
      ap (λ (ts : List Token). linked (token_links n head (new_page p ∷ (new_page q ∷ ts)))) h
      ∙ ap₂ (λ (bs : List ℕ) (ms : List Link). write p (head ++ []) q ∷ (write q bs (first ms) ∷ linked ms)) (group_split n l.stamps e (tokens rest)) (group_links n [] l e (tokens rest))
      ∙ ap (λ (bs : List ℕ). write p bs q ∷ (write q (eb ++ token_bytes n (tokens rest)) (first ls) ∷ linked ls)) (append-nil head)

  writes_closed : (c : Bool) (p : ℕ) (head : List ℕ) (q : ℕ) (ws us : List Write) (image : List ℕ) → after_writes g (closed c p head q ws ++ us) image ≡ after_writes g (ws ++ us) (after_writes g (closed c p head q []) image)
  unfolding after_writes
  writes_closed true p head q ws us image = refl
  writes_closed false p head q ws us image = refl

  writes_first : (c : Bool) (p : ℕ) (head : List ℕ) (q : ℕ) (ws : List Write) (image : List ℕ) → after_writes g (closed c p head q ws) image ≡ after_writes g ws (after_writes g (closed c p head q []) image)
  unfolding after_writes
  writes_first true p head q ws image = refl
  writes_first false p head q ws image = refl

  -- what is written for the entry (`made`, as the rule lists it `chain`), then the rest of the pass: as the rule lists them
  entry_step : (c : Bool) (here : Parent) (head : List ℕ) (p q : ℕ) (l : Label) (e : Entry) (t rest : Items) (made chain later : List Write) → tokens t ≡ stamp_tokens l.stamps (entry e ∷ tokens rest)
      → below_writes g here t ≡ chain ++ below_writes g here rest
      → WritesFit g (closed c p head q []) → WritesFit g chain → WritesFit g (linked (directory_links g (head_after c head (group_bytes g.width l.stamps e)) (page (page_after c p q) rest)))
      → ((x : ℕ) → count x (write_pages chain) + count x (write_pages (linked (directory_links g (head_after c head (group_bytes g.width l.stamps e)) (page (page_after c p q) rest)))) ≤ 1)
      → ((image : List ℕ) → Fit g image → after_writes g made image ≡ after_writes g chain image)
      → ((image : List ℕ) → Fit g image → after_writes g later image ≡ after_writes g (tree_writes here (head_after c head (group_bytes g.width l.stamps e)) (page_after c p q) rest) image)
      → (image : List ℕ) → Fit g image → after_writes g (closed c p head q (made ++ later)) image ≡ after_writes g (tree_writes here head p (opened c q t)) image
  entry_step c here head p q l e t rest made chain later h k f₀ f₁ f₂ o m n image fit =
      let own = linked (directory_links g (head_after c head (group_bytes g.width l.stamps e)) (page (page_after c p q) rest)) in
      let below = below_writes g here rest in
      let start = after_writes g (closed c p head q []) image in
      let fit₀ = fit_after_writes g (closed c p head q []) f₀ image fit in
      let fit₁ = fit_after_writes g chain f₁ start fit₀ in
      writes_first c p head q (made ++ later) image
      ∙ after_writes_append g made later start ∙ ap (after_writes g later) (m start fit₀) ∙ n (after_writes g chain start) fit₁ ∙ sym (after_writes_append g chain (own ++ below) start)
      ∙ writes_turn g chain own below f₁ f₂ o start fit₀
      ∙ sym (writes_closed c p head q own (chain ++ below) image)
      ∙ ap₂ (λ (u w : List Write). after_writes g (u ++ w) image) (sym (own_step c head p q l e t rest h)) (sym (below_opened g here c q t ∙ k))

  module _ (valid : Valid g) where
    closed_fits : (c : Bool) (p : ℕ) (head : List ℕ) (q : ℕ) → p < g.pages → Bytes head → length head ≤ data_capacity g → (c ≡ false → q < g.pages) → WritesFit g (closed c p head q [])
    closed_fits true p head q h b l n = tt
    closed_fits false p head q h b l n = (record { below = h; room = omega (arith, capacity_is g, valid.least, valid.two); pointer = omega (arith, n refl, pages_fit g valid); bytes = b }, tt)

    head_bytes : (c : Bool) (head e : List ℕ) → Bytes head → Bytes e → Bytes (head_after c head e)
    head_bytes true head e b h = bytes_append head e b h
    head_bytes false head e b h = h

    head_room : (c : Bool) (head : List ℕ) (r : ℕ) (l : Label) (e : Entry) → fits_here r l ≡ c → width l ≤ later_entries g → RoomAfter g valid head r
        → RoomAfter g valid (head_after c head (group_bytes g.width l.stamps e)) (slots_left c (later_entries g) r l)
    head_room true head r l e f n h k i =
        omega (arith, length-append head (group_bytes g.width l.stamps e), length_slots g l e [], h (k + width l) (omega (arith, fits_room r l f)), add-mul k (width l) (entry_size g))
    head_room false head r l e f n h k i = omega (arith, length_slots g l e [], holds_later g valid (k + width l) (omega arith), add-mul k (width l) (entry_size g))

    page_after_lem : (c : Bool) (p q : ℕ) → p < q → page_after c p q < q + opens c
    page_after_lem true p q h = omega arith
    page_after_lem false p q h = omega arith

    opened_some : (c : Bool) (q k N : ℕ) → q + (opens c + k) ≤ N → c ≡ false → q < N
    opened_some true q k N h e = absurd (mathlib.Core.Bool.false≢true (sym e))
    opened_some false q k N h e = omega arith

    pub pass_same : (levels : ℕ) (here : Parent) (head : List ℕ) (p r q a : ℕ) (b : Bare) → BareEntries g levels b → Bytes head → RoomAfter g valid head r
        → p < q → q + further g r b ≤ a → a + below_size g b ≤ g.pages → (image : List ℕ) → Fit g image
        → after_writes g (pass_writes g here head p r q a b) image ≡ after_writes g (tree_writes here head p (laid g r q a b)) image
    pass_same levels here head p r q a bare_end w b m h i j image fit =
        ap (λ (bs : List ℕ). after_writes g (write p bs 0 ∷ []) image) (sym (append-nil head))
    pass_same levels here head p r q a (bare_file l bs t) w b m h i j image fit =
        let c = fits_here r l in
        let chain = file_chain g a bs in
        let e : Entry = file_entry l chain in
        let eb = group_bytes g.width l.stamps e in
        let q' = q + opens c in
        let a' = a + file_size g bs in
        let p' = page_after c p q in
        let r' = left_after g r l in
        let rest = laid g r' q' a' t in
        let b' = head_bytes c head eb b (bytes_next g.width l e [] w.0 w.0.byte tt) in
        let m' = head_room c head r l e refl w.2 m in
        let h' = page_after_lem c p q h in
        let own = linked (directory_links g (head_after c head eb) (page p' rest)) in
        let o : (x : ℕ) → count x (write_pages own) ≡ hit x p' + count x (upward q' (further g r' t))
        = λ x. count_directory g x (head_after c head eb) (page p' rest) ∙ ap (λ (ps : List ℕ). hit x p' + count x ps) (own_laid g r' q' a' t) in
        entry_step c here head p q l e (file l chain rest) rest (linked chain) (linked chain) (pass_writes g here (head_after c head eb) p' r' q' a' t) refl refl
        (closed_fits c p head q (omega arith) b (omega (arith, m 0 (omega arith))) (opened_some c q (further g r' t) g.pages (omega arith)))
        (chain_of_fits g valid (upward a (file_size g bs)) bs (upward_in a (file_size g bs) g.pages (omega arith)) w.3)
        (own_fits g valid levels p' r' q' a' (head_after c head eb) t b' m' w.4
        (λ x. omega (arith, runs_apart x p' q' (further g r' t) a 0 g.pages h' (omega arith) (omega arith))))
        (λ x. omega (
          arith,
          o x,
          ap (count x) (pages_linked chain ∙ file_pages g a bs),
          runs_apart x p' q' (further g r' t) a (file_size g bs) g.pages h' (omega arith) (omega arith),
          range_le x g.pages,
        ))
        (λ im f. refl)
        (λ im f. pass_same levels here (head_after c head eb) p' r' q' a' t w.4 b' m' h' (omega arith) (omega arith) im f) image fit
    pass_same zero here head p r q a (bare_dir l d t) w b m h i j image fit = absurd w.4
    pass_same (suc levels) here head p r q a (bare_dir l d t) w b m h i j image fit =
        let c = fits_here r l in
        let sub = laid g (first_entries g) (a + 1) (a + own_size g d) d in
        let e : Entry = directory_entry l (page a sub) in
        let eb = group_bytes g.width l.stamps e in
        let there : Parent = record { name = l.name; start = a } in
        let control = sub_control g.width here in
        let q' = q + opens c in
        let a' = a + (own_size g d + below_size g d) in
        let p' = page_after c p q in
        let r' = left_after g r l in
        let rest = laid g r' q' a' t in
        let b' = head_bytes c head eb b (bytes_next g.width l e [] w.0 w.0.byte tt) in
        let m' = head_room c head r l e refl w.2 m in
        let h' = page_after_lem c p q h in
        let own = linked (directory_links g (head_after c head eb) (page p' rest)) in
        let sub_own = linked (directory_links g control (page a sub)) in
        let sub_below = below_writes g there sub in
        let o : (x : ℕ) → count x (write_pages own) ≡ hit x p' + count x (upward q' (further g r' t))
        = λ x. count_directory g x (head_after c head eb) (page p' rest) ∙ ap (λ (ps : List ℕ). hit x p' + count x ps) (own_laid g r' q' a' t) in
        let u : (x : ℕ) → count x (write_pages (sub_own ++ sub_below)) ≤ count x (upward a (own_size g d + below_size g d))
        = λ x. omega (
          arith,
          count_joined x sub_own sub_below,
          count_directory g x control (page a sub),
          count_below g x there sub,
          ap (count x) (own_laid g (first_entries g) (a + 1) (a + own_size g d) d),
          ap (count x) (inner_laid g (first_entries g) (a + 1) (a + own_size g d) d),
          count_upward x (a + 1) (further g (first_entries g) d),
          count_upward x (a + own_size g d) (below_size g d),
          count_upward x a (own_size g d + below_size g d),
          range_more x (suc a) (a + 1) (omega arith),
          range_more x (a + 1 + further g (first_entries g) d) (a + own_size g d) (omega arith),
          range_more x (a + own_size g d + below_size g d) (a + (own_size g d + below_size g d)) (omega arith),
        ) in
        entry_step c here head p q l e (dir l (page a sub) rest) rest (pass_writes g there control a (first_entries g) (a + 1) (a + own_size g d) d) (sub_own ++ sub_below)
        (pass_writes g here (head_after c head eb) p' r' q' a' t) refl (sym (append_assoc sub_own sub_below (below_writes g here rest)))
        (closed_fits c p head q (omega arith) b (omega (arith, m 0 (omega arith))) (opened_some c q (further g r' t) g.pages (omega arith)))
        (fits_join g sub_own sub_below
        (own_fits g valid levels a (first_entries g) (a + 1) (a + own_size g d) control d (sub_bytes g here valid) (sub_room g valid here) w.4 (upward_in a (own_size g d) g.pages (omega arith)))
        (below_fits g valid levels (first_entries g) (a + 1) (a + own_size g d) there d w.4 (omega arith)))
        (own_fits g valid (suc levels) p' r' q' a' (head_after c head eb) t b' m' w.5
        (λ x. omega (arith, runs_apart x p' q' (further g r' t) a 0 g.pages h' (omega arith) (omega arith))))
        (λ x. omega (arith, o x, u x, runs_apart x p' q' (further g r' t) a (own_size g d + below_size g d) g.pages h' (omega arith) (omega arith), range_le x g.pages))
        (λ im f. pass_same levels there control a (first_entries g) (a + 1) (a + own_size g d) d w.4 (sub_bytes g here valid) (sub_room g valid here) (omega arith) (omega arith) (omega arith) im f)
        (λ im f. pass_same (suc levels) here (head_after c head eb) p' r' q' a' t w.5 b' m' h' (omega arith) (omega arith) im f) image fit
