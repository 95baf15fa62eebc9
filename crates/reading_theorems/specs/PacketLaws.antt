-- The packets of an image's pages: bytes, a pointer of n bytes, no more bytes than a packet holds; packets that stand in a view.
use Rattle.std.specs.Prelude.{◌≡◌, List, [], ◌∷◌, ◌++◌, ℕ, ◌+◌, ◌-◌, ◌*◌, ◌^◌, ◌≤◌, ◌<◌, length, get_or, drop}
use Rattle.std.proofs.Common.{subst, arith, length-take, length-drop, leb-true}
use Rattle.geometry.specs.declared.Geometry.{Geometry}
use Rattle.geometry.specs.ChooseLaws.{on_choose}
use Rattle.geometry.specs.Geometry.{data_capacity}
use Rattle.geometry.specs.Number.{Bytes}
use Rattle.geometry.specs.NumberLaws.{bytes_take, bytes_drop}
use Rattle.geometry.specs.Page.{page_of}
use Rattle.packet.specs.Packet.{bad, good, pointer_of, is_packet, packet_of, View, view_of, Write, write}
use Rattle.rules.specs.WellFormed.{HasPackets}
use Rattle.reading_theorems.specs.ByteLaws.{number_fits}
use Rattle.geometry.specs.BoolLaws.{both}

-- every packet of a view is one that a page can hold
pub record ByteView (g : Geometry) (v : View) : Type 0 where
  pub bytes : (p : ℕ) (b : List ℕ) (next : ℕ) → v p ≡ good b next → Bytes b
  pub pointer : (p : ℕ) (b : List ℕ) (next : ℕ) → v p ≡ good b next → next < 256 ^ g.width
  pub room : (p : ℕ) (b : List ℕ) (next : ℕ) → v p ≡ good b next → length b ≤ data_capacity g

-- a page's packet
pub record PacketFits (n : ℕ) (page b : List ℕ) (next : ℕ) : Type 0 where
  pub bytes : Bytes b
  pub pointer : next < 256 ^ n
  pub room : length b + n + 3 ≤ length page

bad_good : {C : Type 0} {b : List ℕ} {next : ℕ} → bad ≡ good b next → C
bad_good {b = b} {next = next} e = absurd (let z : ◌≡◌ {A = ℕ} 0 1 = cc in omega arith)

pub same_bytes : {b c : List ℕ} {m n : ℕ} → good b m ≡ good c n → b ≡ c
same_bytes e = cc

same_pointer : {b c : List ℕ} {m n : ℕ} → good b m ≡ good c n → m ≡ n
same_pointer e = cc

packet_fits : (n p : ℕ) (page b : List ℕ) (next : ℕ) → Bytes page → packet_of n p page ≡ good b next → PacketFits n page b next
unfolding packet_of is_packet pointer_of
packet_fits n p page b next h e = on_choose _ _ _ _ e
    (λ t e.
    let r = both _ _ t in
    let l₁ : n ≤ get_or page 0 0 = leb-true n (get_or page 0 0) r.0 in
    let l₂ : get_or page 0 0 + 3 ≤ length page = leb-true (get_or page 0 0 + 3) (length page) (both _ _ r.1).0 in
    let k = get_or page 0 0 + 1 - n in
    let eb = same_bytes e in
    let ep = same_pointer e in
    record {
      bytes = subst Bytes eb (bytes_take (get_or page 0 0 - n) (drop 1 page) (bytes_drop 1 page h));
      pointer = subst (λ (x : ℕ). x < 256 ^ n) ep (number_fits n (drop k page) (bytes_drop k page h) (simp length-drop (omega arith)));
      room = subst (λ (x : List ℕ). length x + n + 3 ≤ length page) eb (simp (length-take, length-drop) (omega arith));
    })
    (λ t e. bad_good e)

page_short : (g : Geometry) (image : List ℕ) (p : ℕ) → length (page_of g p image) ≤ g.size
unfolding page_of
page_short g image p = simp length-take (omega arith)

page_bytes_lem : (g : Geometry) (image : List ℕ) (p : ℕ) → Bytes image → Bytes (page_of g p image)
unfolding page_of
page_bytes_lem g image p h = bytes_take g.size (drop (p * g.size) image) (bytes_drop (p * g.size) image h)

-- the view of an image whose numbers are bytes
pub byte_view : (g : Geometry) (image : List ℕ) → Bytes image → ByteView g (view_of g image)
unfolding view_of data_capacity
byte_view g image h =
    let f : (p : ℕ) (b : List ℕ) (next : ℕ) → view_of g image p ≡ good b next → PacketFits g.width (page_of g p image) b next
    = λ p b next e. packet_fits g.width p (page_of g p image) b next (page_bytes_lem g image p h) e in
    record {
      bytes = λ p b next e. (f p b next e).bytes;
      pointer = λ p b next e. (f p b next e).pointer;
      room = λ p b next e. omega (arith, (f p b next e).room, page_short g image p);
    }

-- ---- packets that stand in a view
module _ (v : View) where
  pub packets_left : (ws us : List Write) → HasPackets v (ws ++ us) → HasPackets v ws
  packets_left [] us s = tt
  packets_left (write p b n ∷ ws) us s = (s.0, packets_left ws us s.1)

  pub packets_right : (ws us : List Write) → HasPackets v (ws ++ us) → HasPackets v us
  packets_right [] us s = s
  packets_right (write p b n ∷ ws) us s = packets_right ws us s.1

  pub packets_join : (ws us : List Write) → HasPackets v ws → HasPackets v us → HasPackets v (ws ++ us)
  packets_join [] us s t = t
  packets_join (write p b n ∷ ws) us s t = (s.0, packets_join ws us s.1 t)
