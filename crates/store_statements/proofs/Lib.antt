pub mod Common
mod Requested
mod Texts
mod Examples
mod ProfileTexts
mod NetTexts
mod MessageTexts
mod SigvalueTexts
mod ReceiverTexts
mod SigTexts
mod MsgTexts
mod BlockTexts
mod HeldTexts
mod SpnTexts
mod ApprovalTexts
mod FrozenTexts
mod ReplyTexts
mod PartTexts
