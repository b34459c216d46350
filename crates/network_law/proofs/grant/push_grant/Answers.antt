use Rattle.network_law.proofs.GrantTexts.{grant_written}
use Rattle.network_law.proofs.grant.push_grant.Goals as goal

pub returns : goal.returns
returns c =
    grant_written c.args.grant.now c.args.out.now.items c.extend_from_slice.new.self.items c.extend_from_slice-2.new.self.items c.push_number.new.out.items c.extend_from_slice-3.new.self.items
    c.push_number-2.new.out.items c.push_digits.new.out.items c.push_digits-2.new.out.items c.push_number-3.new.out.items
    c.digits-2.result.now c.digits-3.result.now c.digits.result.now c.value.result
    c.in_ok-extend_from_slice.ensures.items c.in_ok-extend_from_slice-2.ensures.items c.in_ok-push_number.ensures c.in_ok-extend_from_slice-3.ensures.items
    c.in_ok-push_number-2.ensures c.digits.ensures.digits c.in_ok-push_digits.ensures c.digits-2.ensures.digits c.in_ok-push_digits-2.ensures c.digits-3.ensures.digits c.in_ok-push_number-3.ensures c.value.ensures.value
