use Rattle.ux_monitor.proofs.moving.closes.Goals as goal

pub returns : goal.returns
returns c = (
  λ h.
      let e = c.meet.ensures.0 h in
      let p = (c.in_ok-found.ensures e.0).0 e.2 in
      (p.0, p.1, (e.0, e.1, p.2)),
  λ h.
      let e = h.2 in
      c.meet.ensures.1 (e.0, e.1, (c.in_ok-found.ensures e.0).1 (h.0, h.1, e.2)),
)
