-- All bytes that the feeds took.
use Rattle.std.proofs.Common.{◌≡◌, ℕ, List, [], ◌∷◌, ◌++◌, take, ap, sym, refl, ◌∙◌, append_assoc}
use Rattle.std.proofs.lemmas.Grind.{flat_map-append}
use Rattle.std.proofs.lemmas.List.{append-nil, take_at}
use Rattle.std.proofs.lemmas.List.Elements.{All-append, All-cons, All-nil}
use Rattle.std.specs.List.{flat_map, All}
use Rattle.jute_core.specs.Frames.{frame, FitsFrame, IsRest}
use Rattle.zk_frame.specs.Framing.{Framing}
use Rattle.zk_frame.specs.Streams.{StartsFramed, FeedKeepsFramed, TakeKeepsFramed, RestIsStream, WaitingIsStream, TooLongStays}
use Rattle.zk_frame.proofs.Prefixes.{length_of_int}

pub starts_framed : StartsFramed
starts_framed = record { whole = refl; each = All-nil FitsFrame }

pub feed_keeps_framed : FeedKeepsFramed
feed_keeps_framed bodies fed piece n old new h f = record {
  whole = ap (λ (l : List ℕ). l ++ take n piece) h.whole ∙ append_assoc (flat_map frame bodies) old.held (take n piece) ∙ ap (λ (g : Framing). flat_map frame bodies ++ g.held) (sym f.added);
  each = h.each;
}

one_more : (bodies : List (List ℕ)) (body : List ℕ) → FitsFrame body → All FitsFrame bodies → All FitsFrame (bodies ++ body ∷ [])
one_more bodies body fits each = All-append FitsFrame bodies (body ∷ []) each (All-cons FitsFrame body [] fits (All-nil FitsFrame))

one_more_frame : (bodies : List (List ℕ)) (body : List ℕ) → flat_map frame bodies ++ frame body ≡ flat_map frame (bodies ++ body ∷ []) ++ []
one_more_frame bodies body = ap (λ (l : List ℕ). flat_map frame bodies ++ l) (sym (append-nil (frame body))) ∙ sym (flat_map-append frame bodies (body ∷ [])) ∙ sym (append-nil (flat_map frame (bodies ++ body ∷ [])))

pub take_keeps_framed : TakeKeepsFramed
take_keeps_framed bodies fed body old new h t = record {
  whole = h.whole ∙ ap (λ (l : List ℕ). flat_map frame bodies ++ l) t.waited.same ∙ one_more_frame bodies body ∙ ap (λ (g : Framing). flat_map frame (bodies ++ body ∷ []) ++ g.held) (sym t.rest);
  each = one_more bodies body t.waited.fits h.each;
}

pub rest_is_stream : RestIsStream
rest_is_stream bodies held fed h none = record { whole = h.whole; each = h.each; partial = none }

nothing_is_rest : IsRest []
unfolding frame
nothing_is_rest body more fits e = cc

pub waiting_is_stream : WaitingIsStream
waiting_is_stream bodies limit held fed body h w = record {
  whole = h.whole ∙ ap (λ (l : List ℕ). flat_map frame bodies ++ l) w.same ∙ one_more_frame bodies body;
  each = one_more bodies body w.fits h.each;
  partial = nothing_is_rest;
}

pub too_long_stays : TooLongStays
too_long_stays limit bytes piece z h = record {
  prefix = h.prefix;
  more = piece;
  begins = ap (λ (l : List ℕ). l ++ piece) (ap (take 4) h.begins ∙ take_at h.prefix h.more 4 (length_of_int z h.prefix h.named));
  named = h.named;
  beyond = h.beyond;
}
