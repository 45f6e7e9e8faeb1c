use Rattle.tr_windows.proofs.present.Window.painting.Goals as goal

pub returns : goal.returns
returns g c = rw (← c.self.view_is) (record {
  clip = c.spanned-clip.result;
  paints = c.in_ok-painting.ensures.painting;
  has_bad = c.spanned-clip.ensures.bad;
  has_touched = c.spanned-clip.ensures.touched;
  least = c.spanned-clip.ensures.least;
})
